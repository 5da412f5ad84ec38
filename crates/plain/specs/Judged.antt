-- "A record is sound when ..": each clause by two records that differ in it alone, one just within and one just beyond.
use Rattle.std.specs.Prelude.{ℕ, ◌≡◌, Bool, true, false, List, [], ◌∷◌, ◌++◌, map}
use Rattle.blocks.specs.declared.Blocks.{Blocks}
use Rattle.blocks.specs.Blocks.{empty_of, with_of}
use Rattle.geometry.specs.declared.Part.TheVariants.{Small}
use Rattle.protection.specs.declared.Protection.{Protection}
use Rattle.protection.specs.Protection.{bits, fresh_bits}
use Rattle.plain.specs.declared.Array.{Array}
use Rattle.plain.specs.declared.Array.TheVariants.{Main, OneTime}
use Rattle.plain.specs.declared.Program.{Program}
use Rattle.plain.specs.declared.Erase.{Erase}
use Rattle.plain.specs.declared.Inside.{Inside}
use Rattle.plain.specs.declared.Inside.TheVariants.{Nothing, Runs}
use Rattle.plain.specs.declared.Operation.{Operation}
use Rattle.plain.specs.declared.Operation.TheVariants.{Idle, Programming, ProgramSuspended, Window, Erasing, Recovering, EraseSuspended, ChipErasing, InOneTime, OneTimeProgramming}
use Rattle.plain.specs.declared.Command.{Command}
use Rattle.plain.specs.declared.Command.TheVariants.{Ground, Entering, Reads}
use Rattle.plain.specs.declared.Cycle.TheVariants.{Unlock, Unlocked, ProgramData, EraseSetup, EraseUnlock, EraseUnlocked, DybData, PpbSetup, PpbSetting, PpbClearing, OtpLocking}
use Rattle.plain.specs.declared.Reading.TheVariants.{Identity, Dybs, OtpLock}
use Rattle.plain.specs.declared.Device.{Device}
use Rattle.plain.specs.Programs.{writing}
use Rattle.plain.specs.Record.{program, erase, suspended, recovery}
use Rattle.plain.specs.Rows.{metered, standing, only}
use Rattle.plain.specs.Sound.{sound}

-- ---- two records, judged

pub record Edge : Type 0 where
  pub within : Device
  pub beyond : Device

abbrev pub edge : Device → Device → Edge
edge w b = record { within = w; beyond = b }

abbrev pub judged : Edge → List Bool
judged e = sound Small e.within ∷ sound Small e.beyond ∷ []

-- ---- records with one thing under way (block 8 is words 64 to 127, block 9 words 128 to 191, block 39 the first of bank 1B)

abbrev doing : Operation → Device
doing o = standing Ground o fresh_bits

abbrev program_in : Array → (address left : ℕ) → Program
program_in y a left = program (writing y a 0) left false

abbrev program_at : (address left : ℕ) → Program
program_at a left = program_in Main a left

abbrev erase_of : Blocks → (hand left : ℕ) → Erase
erase_of list hand left = erase list hand left false false

abbrev two : ℕ → ℕ → Blocks
two a b = with_of (only a) b

abbrev resting : Command → Inside → Device
resting c i = standing c (EraseSuspended (suspended (erase_of (only 8) 8 1) i)) fresh_bits

-- in the one-time block: a program of one of its words, and a register
abbrev there : (address : ℕ) → Operation
there a = OneTimeProgramming (program_in OneTime a 1)

abbrev entered : Command → Device
entered c = standing c InOneTime fresh_bits

abbrev guarding : Operation → Protection → Device
guarding o b = standing Ground o b

-- ---- the clauses

-- "the clock is at most the limit; charge is at most 17,000 times the clock"
abbrev pub meters : List Edge
meters = edge (metered 100000000000000 0) (metered 100000000000001 0) ∷ edge (metered 1 17000) (metered 1 17001) ∷ []

-- "addresses and block numbers are in range"
abbrev pub ranges : List Edge
ranges =
    edge (doing (Programming (program_at 16383 1))) (doing (Programming (program_at 16384 1)))
    ∷ edge (doing (Erasing (erase_of (two 262 269) 262 1))) (doing (Erasing (erase_of (two 262 270) 262 1)))
    ∷ edge (guarding Idle (bits (only 269) empty_of false false)) (guarding Idle (bits (only 270) empty_of false false))
    ∷ edge (guarding Idle (bits empty_of (only 269) false false)) (guarding Idle (bits empty_of (only 319) false false))
    ∷ edge (standing (Entering (PpbSetting 269)) Idle fresh_bits) (standing (Entering (PpbSetting 270)) Idle fresh_bits)
    ∷ edge (standing (Reads (Identity 3)) Idle fresh_bits) (standing (Reads (Identity 4)) Idle fresh_bits)
    ∷ []

-- "an erase list is not empty, lies in one bank (a chip erase may span all), and holds no protected block; the block in hand is listed"
abbrev pub lists : List Edge
lists =
    edge (doing (Erasing (erase_of (only 8) 8 1))) (doing (Erasing (erase_of empty_of 8 1)))
    ∷ edge (doing (Erasing (erase_of (two 8 38) 8 1))) (doing (Erasing (erase_of (two 8 39) 8 1)))
    ∷ edge (doing (ChipErasing (erase_of (two 8 39) 8 1))) (doing (ChipErasing (erase_of (two 8 39) 9 1)))
    ∷ edge (guarding (Erasing (erase_of (two 8 9) 8 1)) (bits (only 10) empty_of false false)) (guarding (Erasing (erase_of (two 8 9) 8 1)) (bits (only 9) empty_of false false))
    ∷ edge (guarding (ChipErasing (erase_of (two 8 9) 8 1)) (bits empty_of (only 10) false false)) (guarding (ChipErasing (erase_of (two 8 9) 8 1)) (bits empty_of (only 9) false false))
    ∷ edge (doing (Erasing (erase_of (two 8 10) 10 1))) (doing (Erasing (erase_of (two 8 10) 9 1)))
    ∷ []

-- the list of an erase that recovers is a block erase's
abbrev pub recoveries : List Edge
recoveries =
    edge (doing (Recovering (recovery (erase_of (two 8 38) 38 1) 1))) (doing (Recovering (recovery (erase_of (two 8 39) 8 1) 1)))
    ∷ edge (doing (Recovering (recovery (erase_of (two 8 10) 10 1) 1))) (doing (Recovering (recovery (erase_of (two 8 10) 9 1) 1)))
    ∷ edge (guarding (Recovering (recovery (erase_of (two 8 9) 8 1) 1)) (bits (only 10) empty_of false false)) (guarding (Recovering (recovery (erase_of (two 8 9) 8 1) 1)) (bits (only 9) empty_of false false))
    ∷ []

-- "in the window it is the lowest"; past it those listed below count as finished
abbrev pub windows : List Edge
windows =
    edge (doing (Window (erase_of (two 8 9) 8 50))) (doing (Window (erase_of (two 8 9) 9 50)))
    ∷ edge (doing (Erasing (erase_of (two 8 9) 9 1))) (doing (Window (erase_of (two 8 9) 9 1)))
    ∷ []

-- "time left is from 1 to the full time"; of a window "its own time left from 1 to 50"; "Recovery, 1 to 20 µs left"
abbrev pub timed : (ℕ → Operation) → (full : ℕ) → (more : ℕ) → List Edge
timed o full more = edge (doing (o 1)) (doing (o 0)) ∷ edge (doing (o full)) (doing (o more)) ∷ []

abbrev pub times : List Edge
times =
    timed (λ t. Programming (program_at 64 t)) 6 7
    ++ timed (λ t. ProgramSuspended (program_at 64 t)) 6 7
    ++ timed (λ t. Window (erase_of (only 8) 8 t)) 50 51
    ++ timed (λ t. Erasing (erase_of (only 8) 8 t)) 700000 700001
    ++ timed (λ t. Recovering (recovery (erase_of (only 8) 8 1) t)) 20 21
    ++ timed (λ t. Recovering (recovery (erase_of (only 8) 8 t) 1)) 700000 700001
    ++ timed (λ t. EraseSuspended (suspended (erase_of (only 8) 8 t) Nothing)) 700000 700001
    ++ timed (λ t. EraseSuspended (suspended (erase_of (only 8) 8 1) (Runs (program_at 128 t)))) 6 7
    ++ timed (λ t. ChipErasing (erase_of (only 8) 8 t)) 500000 500001
    ++ timed (λ t. OneTimeProgramming (program_in OneTime 128 t)) 6 7

-- "a program's block is unprotected and not on a suspended erase list"
abbrev pub programs_free : List Edge
programs_free =
    edge (guarding (Programming (program_at 64 1)) (bits (only 9) empty_of false false)) (guarding (Programming (program_at 64 1)) (bits (only 8) empty_of false false))
    ∷ edge (guarding (Programming (program_at 64 1)) (bits empty_of (only 9) false false)) (guarding (Programming (program_at 64 1)) (bits empty_of (only 8) false false))
    ∷ edge (resting Ground (Runs (program_at 128 1))) (resting Ground (Runs (program_at 127 1)))
    ∷ []

-- "no command is half entered and no identity or 58H reading is on while an operation runs; in suspension none is half entered past
-- 80H, 48H or 60H, nor past A0H in a suspended program"
abbrev pub commands : List Edge
commands =
    edge (doing (Programming (program_at 64 1))) (standing (Entering Unlock) (Programming (program_at 64 1)) fresh_bits)
    ∷ edge (standing (Reads (Identity 0)) Idle fresh_bits) (standing (Reads (Identity 0)) (Erasing (erase_of (only 8) 8 1)) fresh_bits)
    ∷ edge (doing (Recovering (recovery (erase_of (only 8) 8 1) 1))) (standing (Reads Dybs) (Recovering (recovery (erase_of (only 8) 8 1) 1)) fresh_bits)
    ∷ edge (resting (Reads Dybs) Nothing) (resting (Reads Dybs) (Runs (program_at 128 1)))
    ∷ edge (resting (Entering Unlocked) Nothing) (resting (Entering EraseSetup) Nothing)
    ∷ edge (resting (Entering ProgramData) Nothing) (resting (Entering DybData) Nothing)
    ∷ edge (resting (Entering Unlock) Nothing) (resting (Entering PpbSetup) Nothing)
    ∷ edge (resting (Reads (Identity 3)) Nothing) (resting (Entering PpbClearing) Nothing)
    ∷ edge (standing (Entering EraseUnlock) Idle fresh_bits) (resting (Entering EraseUnlock) Nothing)
    ∷ edge (standing (Entering EraseUnlocked) Idle fresh_bits) (resting (Entering EraseUnlocked) Nothing)
    ∷ edge (standing (Entering (PpbSetting 8)) Idle fresh_bits) (resting (Entering (PpbSetting 8)) Nothing)
    ∷ edge (standing (Entering Unlocked) (ProgramSuspended (program_at 64 1)) fresh_bits) (standing (Entering ProgramData) (ProgramSuspended (program_at 64 1)) fresh_bits)
    ∷ []

-- document 02, request 4: "OTPLOCKED, in the place of PROTECTED, in soundness too": a customer's word, while the lock is open; no block's
-- protection has a part in it, and from 256 on it has
abbrev pub one_time_programs : List Edge
one_time_programs =
    edge (doing (there 128)) (doing (there 127))
    ∷ edge (guarding (there 128) (bits empty_of empty_of true false)) (guarding (there 128) (bits empty_of empty_of false true))
    ∷ edge (guarding (there 200) (bits (only 10) (only 10) false false)) (guarding (Programming (program_at 200 1)) (bits (only 10) (only 10) false false))
    ∷ edge (guarding (OneTimeProgramming (program_at 256 1)) (bits (only 10) empty_of false false)) (guarding (OneTimeProgramming (program_at 256 1)) (bits (only 11) empty_of false false))
    ∷ []

-- a program writes to the array that mode and address select
abbrev pub arrays : List Edge
arrays =
    edge (doing (there 255)) (doing (OneTimeProgramming (program_at 255 1)))
    ∷ edge (doing (OneTimeProgramming (program_at 256 1))) (doing (there 256))
    ∷ edge (doing (Programming (program_at 128 1))) (doing (Programming (program_in OneTime 128 1)))
    ∷ edge (resting Ground (Runs (program_at 128 1))) (resting Ground (Runs (program_in OneTime 128 1)))
    ∷ []

-- while the block is entered none is half entered past 80H; 68H at the lock's address and the lock's status only then, and while nothing runs
abbrev pub one_time_commands : List Edge
one_time_commands =
    edge (entered (Entering PpbSetup)) (entered (Entering EraseSetup))
    ∷ edge (entered (Entering ProgramData)) (entered (Entering EraseUnlock))
    ∷ edge (entered (Entering DybData)) (entered (Entering EraseUnlocked))
    ∷ edge (entered (Entering OtpLocking)) (standing (Entering OtpLocking) Idle fresh_bits)
    ∷ edge (entered (Reads OtpLock)) (standing (Reads OtpLock) Idle fresh_bits)
    ∷ edge (entered (Entering (PpbSetting 269))) (entered (Entering (PpbSetting 270)))
    ∷ edge (resting (Reads Dybs) Nothing) (resting (Reads OtpLock) Nothing)
    ∷ edge (resting (Entering Unlocked) Nothing) (resting (Entering OtpLocking) Nothing)
    ∷ edge (doing (there 128)) (standing (Reads OtpLock) (there 128) fresh_bits)
    ∷ []

abbrev pub edges : List Edge
edges = meters ++ ranges ++ lists ++ recoveries ++ windows ++ times ++ programs_free ++ commands ++ one_time_programs ++ arrays ++ one_time_commands

-- within is sound, and beyond is not
abbrev pub JudgedRight : Type 0
JudgedRight = map judged edges ≡ map (λ (e : Edge). true ∷ false ∷ []) edges
