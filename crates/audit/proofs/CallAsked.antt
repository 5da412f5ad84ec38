-- What `k5l_exposed_block`, `k5l_exposed_word`, `k5l_exposed_array` and `k5l_reads_cells` tell is so.
use Prim.Native.Nat.{ℕ}
use mathlib.Core.Path.{◌≡◌, sym, ap, ◌∙◌}
use mathlib.Core.Bool.{true}
use lib.Dec.{ltb}
use Rattle.geometry.specs.Parts.{bank_count, bank_of}
use Rattle.plain.specs.Events.{read, cut}
use Rattle.plain.specs.Holds.{in_block}
use Rattle.plain.specs.Lent.{word_at}
use Rattle.plain.specs.Machine.{step}
use Rattle.plain.proofs.Tools.{by_cases, both_left, both_right}
use Rattle.layout.specs.Image.{device_of}
use Rattle.layout.proofs.Canonical.{canonical}
use Rattle.face.specs.Face.{Faced, part_named, stands, shown, place_number, spot_number, spot_array}
use Rattle.face.proofs.Faces.{well}
use Rattle.judged.specs.Asked.{exposed_now}
use Rattle.asked.specs.Asked.{face_exposed_block, face_exposed_word, face_exposed_array, face_reads_cells}
use Rattle.audit.specs.Called.{lent_after}
use Rattle.audit.specs.CallPromises.{SparedCalls, ReadsCellsCalls}
use Rattle.audit.proofs.Asked.{sparing-all, read_cell}
use Rattle.audit.proofs.Called.{called_is, called-some, called-none}

pub spared-calls : SparedCalls
unfolding step face_exposed_block face_exposed_word face_exposed_array place_number spot_number spot_array
spared-calls part words l debris f t at block word array y x b w z c no_word no_block =
    let p = part_named part in
    let r = device_of words in
    ap (λ (g : Faced). word_at (lent_after g) y x) (called_is part words l c)
    ∙ by_cases (stands part words)
    (λ s.
    let block-is : block ≡ place_number (exposed_now p r).block = rw s at b in
    let word-is : word ≡ spot_number (exposed_now p r).word = rw s at w in
    let array-is : array ≡ spot_array (exposed_now p r).word = rw s at z in
    ap (λ (g : Faced). word_at (lent_after g) y x) (called-some part words l (cut debris) s)
    ∙ sparing-all p r l debris y x (λ e. no_word (array-is ∙ ap spot_array e) (word-is ∙ ap spot_number e))
    (λ n e. ap (λ (k : ℕ). in_block p k y x) (sym (block-is ∙ ap place_number e)) ∙ no_block))
    (λ s. ap (λ (g : Faced). word_at (lent_after g) y x) (called-none part words l (cut debris) s))

pub reads-cells-calls : ReadsCellsCalls
unfolding step face_reads_cells
reads-cells-calls part words l f t at a is whole h c =
    let p = part_named part in
    let yes : face_reads_cells part words (bank_of p a) ≡ true = sym is in
    let s = both_left (stands part words) _ yes in
    let maps = both_right (ltb (bank_of p a) (bank_count p)) _ (both_right (stands part words) _ yes) in
    called_is part words l c ∙ called-some part words l (read a) s
    ∙ ap shown (read_cell p (device_of words) l a whole h maps) ∙ rw (canonical words (well part words s))
