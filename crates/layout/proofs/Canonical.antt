-- Well-formed words are the image of the record that they stand for: no other words stand for it.
use Prim.Native.Nat.{ℕ}
use mathlib.Core.Path.{◌≡◌, refl, ap, ap₂, sym, ◌∙◌}
use mathlib.Core.Bool.{Bool, true, false, ◌&&◌}
use mathlib.Core.List.{List, [], ◌∷◌, ◌++◌}
use native.Mathlib.Nat.{mod-eq_of_lt}
use lib.Dec.{eqb, ltb}
use lib.ListN.{length}
use borrow.Author.Tests.{eqb-true, ltb-true}
use Rattle.std.specs.Prelude.{if◌then◌else◌}
use Rattle.plain.proofs.Tools.{both_left, both_right}
use Rattle.layout.specs.declared.OperationParts.{OperationParts}
use Rattle.layout.specs.Places.{layout_number, record_words, layout_at, clock_at, command_at, operation_at, list_at, toggles_at, address_at, data_at, toggle_at, dyb_at, lock_at, recovery_at, entered_at, sealed_at}
use Rattle.layout.specs.Commands.{command_fits}
use Rattle.layout.specs.Operations.{no_erase, no_program, parts_with, erases, programs, operation_parts, operation_of}
use Rattle.layout.specs.Image.{flag, command_section, erase_section, program_section, operation_section, bits_section, added_section, image_of, word, words_from, section, unused, command_words_of, erase_of, entered_in, program_of, parts_of, bits_of, of_layout, marked, erase_fits, program_fits, operation_fits, recovery_fits, entered_fits, well_formed, device_of}
use Rattle.layout.specs.Promises.{OneImage}
use Rattle.layout.proofs.Words.{section-whole, zeros-are, flag-back, toggles-back}
use Rattle.layout.proofs.Commands.{command-back}
use Rattle.layout.proofs.Operations.{back}

-- ---- what well-formed says, part by part

pub record Marked (i : List ℕ) : Type 0 where
  pub long : length i ≡ record_words
  pub number : word i layout_at ≡ layout_number
  pub lock : ltb (word i lock_at) 2 ≡ true
  pub seal : ltb (word i sealed_at) 2 ≡ true

pub is-marked : (i : List ℕ) → marked i ≡ true → Marked i
unfolding marked
is-marked i h =
    let of = both_left (of_layout layout_number record_words i) _ h in
    let locks = both_right (of_layout layout_number record_words i) _ h in
    record {
      long = eqb-true (length i) record_words (both_left _ _ of);
      number = eqb-true (word i layout_at) layout_number (both_right (eqb (length i) record_words) _ of);
      lock = both_left (ltb (word i lock_at) 2) _ locks;
      seal = both_right (ltb (word i lock_at) 2) _ locks;
    }

record Formed (i : List ℕ) : Type 0 where
  mark : Marked i
  command : command_fits (command_words_of i) ≡ true
  operation : operation_fits i ≡ true
  recovery : recovery_fits i ≡ true
  entered : entered_fits i ≡ true

formed : (i : List ℕ) → well_formed i ≡ true → Formed i
unfolding well_formed
formed i h =
    let h1 = both_right (marked i) _ h in
    let h2 = both_right (command_fits (command_words_of i)) _ h1 in
    let h3 = both_right (operation_fits i) _ h2 in
    record {
      mark = is-marked i (both_left _ _ h);
      command = both_left _ _ h1;
      operation = both_left (operation_fits i) _ h2;
      recovery = both_left (recovery_fits i) _ h3;
      entered = both_right (recovery_fits i) _ h3;
    }

pub long : (i : List ℕ) → well_formed i ≡ true → length i ≡ record_words
long i h = (formed i h).mark.long

-- ---- each section is that of what it stands for

module _ (i : List ℕ) where
  erase-back : (has : Bool) → (if has then ltb (word i toggles_at) 4 else unused i list_at address_at) ≡ true
      → erase_section (if has then erase_of i else no_erase) ≡ section i list_at address_at
  unfolding words_from
  erase-back true h = rw (toggles-back (word i toggles_at) h)
  erase-back false h = sym (zeros-are (section i list_at address_at) h)

  program-back : (has entered : Bool) → (if has then ltb (word i data_at) 65536 && ltb (word i toggle_at) 2 else unused i address_at dyb_at) ≡ true
      → program_section (if has then program_of entered i else no_program) ≡ section i address_at dyb_at
  unfolding words_from
  program-back true entered h =
      let word_fits = ltb-true (word i data_at) 65536 (both_left _ _ h) in
      rw (mod-eq_of_lt word_fits, flag-back (word i toggle_at) (both_right (ltb (word i data_at) 65536) _ h))
  program-back false entered h = sym (zeros-are (section i address_at dyb_at) h)

  -- a mode of 1 goes with the numbers 0 and 1, and the others with 0
  mode-back : (few : Bool) → (if few then ltb (word i entered_at) 2 else eqb (word i entered_at) 0) ≡ true
      → (entered_in i ≡ true → few ≡ true) × (flag (entered_in i) ≡ word i entered_at)
  mode-back true h = ((λ _. refl), flag-back (word i entered_at) h)
  mode-back false h = let none = eqb-true (word i entered_at) 0 h in rw none ((λ e. e), refl)

  module _ (f : Formed i) where
    parts-back : operation_parts (operation_of (parts_of i))
        ≡ parts_with (word i operation_at) (if erases (word i operation_at) then erase_of i else no_erase)
        (if programs (word i operation_at) then program_of (entered_in i) i else no_program) (word i recovery_at) (entered_in i)
    unfolding operation_fits recovery_fits entered_fits
    parts-back =
        back (word i operation_at) (word i recovery_at) (entered_in i) (both_left (ltb (word i operation_at) 8) _ f.operation) f.recovery
        (mode-back (ltb (word i operation_at) 2) f.entered).0 (erase_of i) (program_of (entered_in i) i)

    operation-back : operation_section (operation_parts (operation_of (parts_of i))) ≡ section i operation_at dyb_at
    unfolding words_from operation_fits erase_fits program_fits
    operation-back =
        let n = word i operation_at in
        let fits = both_right (ltb n 8) (erase_fits i && program_fits i) f.operation in
        ap operation_section parts-back
        ∙ ap₂ (λ (a b : List ℕ). n ∷ (a ++ b)) (erase-back (erases n) (both_left (erase_fits i) (program_fits i) fits))
        (program-back (programs n) (entered_in i) (both_right (erase_fits i) (program_fits i) fits))

    bits_back : bits_section (bits_of i) ≡ section i dyb_at recovery_at
    unfolding words_from
    bits_back = rw (flag-back (word i lock_at) f.mark.lock)

    added-back : added_section (operation_parts (operation_of (parts_of i))) (bits_of i) ≡ section i recovery_at record_words
    unfolding words_from entered_fits
    added-back =
        ap (λ (o : OperationParts). added_section o (bits_of i)) parts-back
        ∙ ap₂ (λ (a b : ℕ). word i recovery_at ∷ a ∷ b ∷ []) (mode-back (ltb (word i operation_at) 2) f.entered).1 (flag-back (word i sealed_at) f.mark.seal)

-- ---- all of them

abbrev joined : ℕ → (ms cs os bs ns : List ℕ) → List ℕ
joined v ms cs os bs ns = v ∷ (ms ++ (cs ++ (os ++ (bs ++ ns))))

joined_same : (ms : List ℕ) {v v' : ℕ} {cs cs' os os' bs bs' ns ns' : List ℕ} → v ≡ v' → cs ≡ cs' → os ≡ os' → bs ≡ bs' → ns ≡ ns'
    → joined v ms cs os bs ns ≡ joined v' ms cs' os' bs' ns'
joined_same ms p q s t u = rw (p, q, s, t, u)

pub canonical : OneImage
unfolding image_of device_of words_from
canonical i h =
    let f = formed i h in
    joined_same (section i clock_at command_at) (sym f.mark.number) (ap command_section (command-back (command_words_of i) f.command))
    (operation-back i f) (bits_back i f) (added-back i f)
    ∙ section-whole i record_words f.mark.long
