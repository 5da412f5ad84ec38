-- What the words for C need of an operation: the data of a program has 16 bits, as the code's types give it, and a recovery has time left.
use Prim.Native.Nat.{ℕ, ◌<◌}
use lib.Dec.{lit<}
use Rattle.plain.specs.declared.Inside.{Inside}
use Rattle.plain.specs.declared.Inside.TheVariants.{Nothing, Runs}
use Rattle.plain.specs.declared.Operation.{Operation}
use Rattle.plain.specs.declared.Operation.TheVariants.{Idle, Programming, ProgramSuspended, Window, Erasing, Recovering, EraseSuspended, ChipErasing, InOneTime, OneTimeProgramming}
use Rattle.plain.proofs.Lasting.{Lasting}

unfoldable pub inside_data : Inside → ℕ
inside_data Nothing = 0
inside_data (Runs q) = q.writes.word

-- the data of an operation's program; 0 where there is none
unfoldable pub data_of : Operation → ℕ
data_of Idle = 0
data_of (Programming q) = q.writes.word
data_of (ProgramSuspended q) = q.writes.word
data_of (Window e) = 0
data_of (Erasing e) = 0
data_of (Recovering r) = 0
data_of (EraseSuspended s) = inside_data s.inside
data_of (ChipErasing e) = 0
data_of InOneTime = 0
data_of (OneTimeProgramming q) = q.writes.word

-- the time left of a recovery; 1 where there is none
unfoldable pub recovery_left : Operation → ℕ
recovery_left Idle = 1
recovery_left (Programming q) = 1
recovery_left (ProgramSuspended q) = 1
recovery_left (Window e) = 1
recovery_left (Erasing e) = 1
recovery_left (Recovering r) = r.left
recovery_left (EraseSuspended s) = 1
recovery_left (ChipErasing e) = 1
recovery_left InOneTime = 1
recovery_left (OneTimeProgramming q) = 1

abbrev pub Short : Operation → Type 0
Short o = (data_of o < 65536) × (0 < recovery_left o)

pub short-lasts : Lasting Short
unfolding data_of inside_data recovery_left
short-lasts =
    record {
      idle = (lit< tt, lit< tt);
      window = λ e. (lit< tt, lit< tt);
      erasing = λ e. (lit< tt, lit< tt);
      recovering = λ e n h. (lit< tt, h);
      chip-erasing = λ e. (lit< tt, lit< tt);
      resting = λ e. (lit< tt, lit< tt);
      programming = λ q l h. h;
      inside = λ e q l h. h;
      entered = (lit< tt, lit< tt);
      one_time = λ q l h. h;
    }
