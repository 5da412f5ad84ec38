-- A replay: the bytes of a script come in parts of any size, each handed to `playing::replayed` with record, cells, one-time words and words
-- as the one before left them, and their end to `playing::finished`; after each call the first bytes of the buffer, as many as it says, are
-- written.
use Rattle.std.specs.Prelude.{ℕ, ◌≡◌, List, [], ◌∷◌, ◌++◌, length, take}
use contract.Lifetimes.{Lfts}
use Rattle.plain.specs.Lent.{Lent}
use Rattle.plain.specs.Record.{fresh}
use Rattle.language.specs.Language.{Bytes}
use Rattle.deeds.specs.Events.{state}
use Rattle.deeds.specs.Answers.{answers}
use Rattle.playing.specs.declared.Replay.{Replay}
use Rattle.playing.specs.declared.Played.{Played}
use Rattle.playing.proofs.fresh.Reads as Fresh
use Rattle.playing.proofs.replayed.Reads as Part
use Rattle.playing.proofs.finished.Reads as End
use Rattle.audit.specs.Slices.{Location, slice, slice_mut, slices_mut}

-- what is written from here on, by what a caller learns of each call
pub data Writes : Replay → Lent → (words : List ℕ) → (parts : List (List ℕ)) → (written : List ℕ) → Type 0 where
  ends : (t : Lfts 4) (at by of to : Location) (n : ℕ) (l' : Lent) (out words' out' : List ℕ) {r : Replay} {l : Lent} {words : List ℕ}
      → End.Learnt t (r, slices_mut at by l (slice_mut of words, (slice_mut to out, tt))) n (r, slices_mut at by l' (slice_mut of words', (slice_mut to out', tt)))
      → Writes r l words [] (take n out')
  goes : (t : Lfts 5) (from at by of to : Location) (y : Played) (l' : Lent) (out words' out' : List ℕ) {r : Replay} {l : Lent} {part words rest : List ℕ} {parts : List (List ℕ)}
      → Part.Learnt t (r, (slice from part, slices_mut at by l (slice_mut of words, (slice_mut to out, tt)))) y
      (r, (slice from part, slices_mut at by l' (slice_mut of words', (slice_mut to out', tt))))
      → Writes y.replay l' words' parts rest → Writes r l words (part ∷ parts) (take y.end out' ++ rest)

abbrev pub joined : List (List ℕ) → List ℕ
joined [] = []
joined (part ∷ parts) = part ++ joined parts

-- what is written for a script is what its lines mean and the plain machine answers, to the byte
abbrev pub ReplayAnswers : Type 0
ReplayAnswers =
    (first : Replay) (l : Lent) (words : List ℕ) (parts : List (List ℕ)) (written : List ℕ) → Fresh.Learnt tt tt first tt → length words ≡ 16384 → Bytes (joined parts)
    → Writes first l words parts written → written ≡ answers (joined parts) (state fresh l)
