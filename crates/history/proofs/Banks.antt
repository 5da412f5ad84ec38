-- Banks do not tell of each other, in any run: what holds of an event holds of each in its turn.
use Prim.Native.Nat.{ℕ}
use mathlib.Core.Path.{◌≡◌, refl}
use mathlib.Core.List.{List, [], ◌∷◌, ◌++◌}
use Rattle.geometry.specs.declared.Part.{Part}
use Rattle.plain.specs.declared.Device.{Device}
use Rattle.plain.specs.Banks.{AlikeBut, AnsweredAlike, Spares, BanksApartInRuns}
use Rattle.plain.specs.Events.{Event}
use Rattle.plain.specs.Lent.{Lent}
use Rattle.plain.specs.Machine.{run, step}
use Rattle.plain.proofs.Banks.{banks-apart}

-- two runs of the same events, on the same record and over words that are alike: both come to the same record, and to words that are alike
module _ (p : Part) (bank : ℕ) (e : Event) where
  abreast : (r s : Device) (l m : Lent) (es : List Event) → r ≡ s → AlikeBut p bank l m → Spares p bank r l (es ++ (e ∷ []))
      → ((run p r l es).device ≡ (run p s m es).device) × AnsweredAlike p bank (run p r l es).device (run p r l es).lent (run p s m es).lent e
  unfolding run Spares
  abreast r s l m [] same a spared = (same, banks-apart p bank r l m e a spared.0)
  abreast r s l m (f ∷ es) same a spared =
      let one = banks-apart p bank r l m f a spared.0 in
      abreast (step p r l f).answer.device _ _ _ es (rw (← same) one.device) (rw (← same) one.lent) spared.1

pub banks-apart-in-runs : (p : Part) → BanksApartInRuns p
banks-apart-in-runs p bank r l m es e a s = abreast p bank e r r l m es refl a s
