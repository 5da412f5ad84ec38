-- "No function that anyone outside calls has a `requires`": what a caller has to show before a call (`Asked`, the function's `requires`,
-- whatever they are) is nothing, for all arguments.
use Rattle.std.specs.Prelude.{ℕ, List}
use contract.Lifetimes.{Lfts}
use Rattle.std.specs.Borrow.{Bor, MutBor}
use Rattle.geometry.specs.declared.Part.{Part}
use Rattle.geometry.proofs.asked.k5l_small_refusal.Reads as SmallRefusal
use Rattle.geometry.proofs.asked.k5l_small_block.Reads as SmallBlock
use Rattle.geometry.proofs.asked.k5l_small_bank.Reads as SmallBank
use Rattle.geometry.proofs.asked.k5l_full_refusal.Reads as FullRefusal
use Rattle.geometry.proofs.asked.k5l_full_block.Reads as FullBlock
use Rattle.geometry.proofs.asked.k5l_full_bank.Reads as FullBank
use Rattle.plain.specs.declared.Device.{Device}
use Rattle.machine.proofs.fresh.Reads as Fresh
use Rattle.machine.proofs.is_sound.Reads as IsSound
use Rattle.machine.proofs.read.Reads as Read
use Rattle.machine.proofs.write.Reads as Write
use Rattle.machine.proofs.wait.Reads as Wait
use Rattle.machine.proofs.cut.Reads as Cut
use Rattle.machine.proofs.range_refusal.Reads as RangeRefusal
use Rattle.machine.proofs.range_array.Reads as RangeArray
use Rattle.machine.proofs.range.Reads as Range
use Rattle.machine.proofs.exposed.Reads as Exposed
use Rattle.machine.proofs.reads_cells.Reads as ReadsCells
use Rattle.machine.proofs.until_end.Reads as UntilEnd
use Rattle.machine.proofs.until_change.Reads as UntilChange
use Rattle.machine.proofs.debris_needed.Reads as DebrisNeeded
use Rattle.emulator.proofs.k5l_fresh.Reads as CFresh
use Rattle.emulator.proofs.k5l_carry.Reads as CCarry
use Rattle.emulator.proofs.k5l_read.Reads as CRead
use Rattle.emulator.proofs.k5l_write.Reads as CWrite
use Rattle.emulator.proofs.k5l_wait.Reads as CWait
use Rattle.emulator.proofs.k5l_cut.Reads as CCut
use Rattle.emulator.proofs.k5l_range.Reads as CRange
use Rattle.emulator.proofs.asked_of.k5l_sound.Reads as CSound
use Rattle.emulator.proofs.asked_of.k5l_exposed_block.Reads as CExposedBlock
use Rattle.emulator.proofs.asked_of.k5l_exposed_word.Reads as CExposedWord
use Rattle.emulator.proofs.asked_of.k5l_exposed_array.Reads as CExposedArray
use Rattle.emulator.proofs.asked_of.k5l_reads_cells.Reads as CReadsCells
use Rattle.emulator.proofs.asked_of.k5l_clock.Reads as CClock
use Rattle.emulator.proofs.asked_of.k5l_charge.Reads as CCharge
use Rattle.emulator.proofs.asked_of.k5l_first_word.Reads as CFirstWord
use Rattle.emulator.proofs.asked_of.k5l_block_words.Reads as CBlockWords
use Rattle.emulator.proofs.foreseen.k5l_until_end.Reads as CUntilEnd
use Rattle.emulator.proofs.foreseen.k5l_until_change.Reads as CUntilChange
use Rattle.emulator.proofs.foreseen.k5l_changing_block.Reads as CChangingBlock
use Rattle.emulator.proofs.foreseen.k5l_changing_word.Reads as CChangingWord
use Rattle.emulator.proofs.foreseen.k5l_changing_array.Reads as CChangingArray
use Rattle.emulator.proofs.foreseen.k5l_debris_needed.Reads as CDebrisNeeded
use Rattle.emulator.proofs.addresses.k5l_block_of.Reads as CBlockOf
use Rattle.emulator.proofs.addresses.k5l_bank_of.Reads as CBankOf

-- the functions of `machine`
pub record MachineAsks (p : Part) (r : Device) (cells otp debris : Bor (List ℕ)) (cells_mut otp_mut : MutBor (List ℕ)) (t : Lfts 3) (a w n : ℕ) : Type 0 where
  pub fresh : Fresh.Asked tt tt
  pub is-sound : IsSound.Asked tt (p, (r, tt))
  pub read : Read.Asked (t.0, (t.1.0, tt)) (p, (r, (cells, (otp, (a, tt)))))
  pub write : Write.Asked (t.0, (t.1.0, tt)) (p, (r, (cells, (otp, (a, (w, tt))))))
  pub wait : Wait.Asked (t.0, (t.1.0, tt)) (p, (r, (cells_mut, (otp_mut, (n, tt)))))
  pub cut : Cut.Asked t (p, (r, (cells_mut, (otp_mut, (debris, tt)))))
  pub range-refusal : RangeRefusal.Asked (t.0, (t.1.0, tt)) (p, (r, (cells, (otp, (a, (n, tt))))))
  pub range-array : RangeArray.Asked tt (r, (a, tt))
  pub range : Range.Asked (t.0, tt) (p, (r, (cells, (otp, (a, (n, tt))))))
  pub exposed : Exposed.Asked tt (p, (r, tt))
  pub reads-cells : ReadsCells.Asked tt (p, (r, (n, tt)))
  pub until_end : UntilEnd.Asked tt (p, (r, tt))
  pub until-change : UntilChange.Asked tt (p, (r, tt))
  pub debris-needed : DebrisNeeded.Asked tt (p, (r, tt))

-- the functions of the header
pub record HeaderAsks (part : ℕ) (words stored cells otp debris : Bor (List ℕ)) (words_mut cells_mut otp_mut : MutBor (List ℕ)) (t : Lfts 4) (a w n : ℕ) : Type 0 where
  pub fresh : CFresh.Asked (t.0, tt) (words_mut, tt)
  pub carry : CCarry.Asked (t.0, (t.1.0, tt)) (stored, (words_mut, tt))
  pub read : CRead.Asked (t.0, (t.1.0, (t.1.1.0, tt))) (part, (words_mut, (cells, (otp, (a, tt)))))
  pub write : CWrite.Asked (t.0, (t.1.0, (t.1.1.0, tt))) (part, (words_mut, (cells, (otp, (a, (w, tt))))))
  pub wait : CWait.Asked (t.0, (t.1.0, (t.1.1.0, tt))) (part, (words_mut, (cells_mut, (otp_mut, (n, tt)))))
  pub cut : CCut.Asked t (part, (words_mut, (cells_mut, (otp_mut, (debris, tt)))))
  pub range : CRange.Asked (t.0, (t.1.0, (t.1.1.0, tt))) (part, (words, (cells, (otp, (a, (n, tt))))))
  pub sound : CSound.Asked (t.0, tt) (part, (words, tt))
  pub exposed-block : CExposedBlock.Asked (t.0, tt) (part, (words, tt))
  pub exposed-word : CExposedWord.Asked (t.0, tt) (part, (words, tt))
  pub exposed-array : CExposedArray.Asked (t.0, tt) (part, (words, tt))
  pub reads-cells : CReadsCells.Asked (t.0, tt) (part, (words, (n, tt)))
  pub clock : CClock.Asked (t.0, tt) (part, (words, tt))
  pub charge : CCharge.Asked (t.0, tt) (part, (words, tt))
  pub first_word : CFirstWord.Asked tt (part, (n, tt))
  pub block_words : CBlockWords.Asked tt (part, (n, tt))
  pub until_end : CUntilEnd.Asked (t.0, tt) (part, (words, tt))
  pub until-change : CUntilChange.Asked (t.0, tt) (part, (words, tt))
  pub changing-block : CChangingBlock.Asked (t.0, tt) (part, (words, tt))
  pub changing-word : CChangingWord.Asked (t.0, tt) (part, (words, tt))
  pub changing-array : CChangingArray.Asked (t.0, tt) (part, (words, tt))
  pub debris-needed : CDebrisNeeded.Asked (t.0, tt) (part, (words, tt))
  pub block_of : CBlockOf.Asked tt (part, (a, tt))
  pub bank-of : CBankOf.Asked tt (part, (a, tt))
  pub small-refusal : SmallRefusal.Asked tt (a, tt)
  pub small-block : SmallBlock.Asked tt (a, tt)
  pub small-bank : SmallBank.Asked tt (a, tt)
  pub full-refusal : FullRefusal.Asked tt (a, tt)
  pub full_block : FullBlock.Asked tt (a, tt)
  pub full-bank : FullBank.Asked tt (a, tt)

abbrev pub AsksNothing : Type 0
AsksNothing =
    ((p : Part) (r : Device) (cells otp debris : Bor (List ℕ)) (cells_mut otp_mut : MutBor (List ℕ)) (t : Lfts 3) (a w n : ℕ)
    → MachineAsks p r cells otp debris cells_mut otp_mut t a w n)
    × ((part : ℕ) (words stored cells otp debris : Bor (List ℕ)) (words_mut cells_mut otp_mut : MutBor (List ℕ)) (t : Lfts 4) (a w n : ℕ)
    → HeaderAsks part words stored cells otp debris words_mut cells_mut otp_mut t a w n)
