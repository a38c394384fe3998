-- What packing and unpacking answer once the list is scanned and the image checked. Document 01, "then 1 to 17 at the packed word; then 26". Assumes nothing.
use mathlib.Core.Path.{◌≡◌, refl, sym, ap, ap₂, ◌∙◌}
use mathlib.Core.List.{List, ◌++◌, append-nil}
use Prim.Native.Nat.{ℕ, ◌≤◌, ◌<◌}
use native.Mathlib.Omega.{arith}
use lib.ListN.{length, drop_of_length-le}
use lib.Seq.{sets}
use borrow.Author.Tests.{le-leb}
use Rattle.model.specs.declared.Kind.TheVariants.{Header}
use Rattle.model.specs.declared.Refusal.TheVariants.{Image}
use Rattle.model.specs.Answers.{Verdict, refused_at}
use Rattle.std.proofs.Common.{Ok}
use Rattle.model.specs.Image.{check_image}
use Rattle.model.specs.Spread.{packed_word, unpacked, scan, packed, written_to, write_out, if_checked, pack, unpack}
use Rattle.spread.specs.TripLaws.{first_group, packed-count}
use Rattle.image.specs.LongImages.{long_fault, check_image-fault}
use Rattle.spread.proofs.LoopLaws.{stored}

pub pack-checked : (list room : List ℕ) (count : ℕ) → scan list ≡ Ok count → (verdict : Verdict) → check_image (packed list) ≡ verdict
    → if_checked verdict room (write_out (packed list) room) ≡ pack list room
unfolding pack
pack-checked list room count through verdict e = rw (through, e) refl

pub pack-long : (list room : List ℕ) (count word : ℕ) → scan list ≡ Ok count → 131071 < count → word ≡ packed_word Header list
    → written_to (refused_at (Image (long_fault word)) 0) room ≡ pack list room
pack-long list room count word through long is =
    let n = packed-count list count through in
    let f = first_group list count (omega arith) through in
    let v = check_image-fault (packed list) (omega (arith, n)) ∙ ap (λ (w : ℕ). refused_at (Image (long_fault w)) 0) (f.packs ∙ sym is) in
    pack-checked list room count through (refused_at (Image (long_fault word)) 0) v

-- the words fill the place that was lent for them
pub filled : (list words : List ℕ) → scan list ≡ Ok (length words) → sets words 0 (packed list) ≡ packed list
filled list words through =
    let n = packed-count list (length words) through in
    let h : length words ≤ length (packed list) = omega (arith, n) in
    stored words (packed list) (omega (arith, n)) ∙ ap (λ (rest : List ℕ). packed list ++ rest) (drop_of_length-le words h) ∙ append-nil (packed list)

pub unpack-done : (image room : List ℕ) → check_image image ≡ Ok tt → (size : ℕ) → size ≡ length (unpacked image) → (left : List ℕ) → size ≤ length room
    → left ≡ sets room 0 (unpacked image) → written_to (Ok size) left ≡ unpack image room
unfolding unpack write_out
unpack-done image room legal size is left h e =
    rw (legal, le-leb (length (unpacked image)) (length room) (omega (arith, is)))
    (ap₂ (λ (n : ℕ) (final : List ℕ). written_to (Ok n) final) is (e ∙ stored room (unpacked image) (omega (arith, is))))
