-- What a program writes lies in its array, where both arrays are whole.
use Prim.Native.Nat.{◌<◌}
use mathlib.Core.Path.{◌≡◌}
use mathlib.Core.Bool.{true}
use native.Mathlib.Omega.{arith}
use lib.ListN.{length}
use borrow.Author.Tests.{ltb-true}
use Rattle.geometry.specs.declared.Part.{Part}
use Rattle.plain.specs.declared.Array.{Array}
use Rattle.plain.specs.declared.Written.{Written}
use Rattle.plain.specs.Lent.{Lent, array_of, words_of, Whole}
use Rattle.plain.specs.Programs.{lies_in}

pub inside : (p : Part) (d : Written) (l : Lent) (y : Array) → d.array ≡ y → Whole p l → lies_in p d ≡ true → d.at < length (array_of y l)
unfolding lies_in
inside p d l y e w h = rw (← e) (omega (arith, w d.array, ltb-true d.at (words_of p d.array) h))
