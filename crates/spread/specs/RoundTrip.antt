-- THE ROUND TRIP: packing and unpacking undo each other on exactly the legal images. Document 01, "Rule image", last paragraph.
-- `written words room` is the answer `Done`, with the count of the words, and the room with the words in front and what stood past them behind.
-- The facts stand in the files beside this one. Assumes nothing.
use Rattle.std.specs.Prelude.{◌≡◌, List, ℕ, ◌≤◌, length, Ok}
use Rattle.std.proofs.Common.{sym, ap, subst, ◌∙◌, arith}
use Rattle.model.specs.Image.{check_image}
use Rattle.model.specs.Encoding.{Words}
use Rattle.model.specs.Spread.{unpacked, packed, WrittenTo, written, pack, unpack}
use Rattle.spread.specs.ImageLaws.{walked}
use Rattle.spread.specs.TripLaws.{legal-writes, packed-words, packed-back, pack-done, unpack-writes, written_same}

-- an image that the check accepts; words are below 2^32
abbrev pub LegalImage : List ℕ → Type 0
LegalImage image = (check_image image ≡ Ok tt) × Words image

-- a list that packs, given a room
abbrev pub PacksTo : List ℕ → List ℕ → ℕ → Type 0
PacksTo list room count = (pack list room).answer ≡ Ok count

-- for every legal image and enough room, unpacking and then packing gives the image
pub unpack-then-pack : (image room other : List ℕ) → LegalImage image → length (unpacked image) ≤ length room → length image ≤ length other
    → (list : List ℕ) × (unpack image room ≡ written list room) × (pack list other ≡ written image other)
unpack-then-pack image room other legal enough enough' =
    (unpacked image, unpack-writes image room legal.0 enough, legal-writes image legal.0 legal.1 other enough')

-- for every list that packs, packing and then unpacking gives the list
pub pack-then-unpack : (list room other : List ℕ) (count : ℕ) → PacksTo list room count → length list ≤ length other
    → (image : List ℕ) × (pack list room ≡ written image room) × (unpack image other ≡ written list other)
pack-then-unpack list room other count packs enough =
    let p = pack-done list room count packs in
    let back = packed-back list count p.through (omega (arith, p.counts, (walked (packed list) p.legal).some)) in
    (packed list, p.writes, unpack-writes (packed list) other p.legal (rw back enough) ∙ ap (λ (words : List ℕ). written words other) back)

-- a list packs, given a room, exactly if it is the unpacking of a legal image that the room can hold: only if ..
pub packs-only-if : (list room : List ℕ) (count : ℕ) → PacksTo list room count
    → (image : List ℕ) × LegalImage image × (unpacked image ≡ list) × (length image ≡ count) × (count ≤ length room)
packs-only-if list room count packs =
    let p = pack-done list room count packs in
    (packed list, (p.legal, packed-words list count p.through), packed-back list count p.through (omega (arith, p.counts, (walked (packed list) p.legal).some)), p.counts, p.enough)

-- .. and if
pub packs-if : (image room : List ℕ) → LegalImage image → length image ≤ length room → PacksTo (unpacked image) room (length image)
packs-if image room legal enough = ap (λ (call : WrittenTo). call.answer) (legal-writes image legal.0 legal.1 room enough)

-- the images of the round trip are exactly the legal ones: what packing writes is legal ..
pub packed-is-legal : (list room image : List ℕ) → pack list room ≡ written image room → LegalImage image
packed-is-legal list room image e =
    let p = pack-done list room (length image) (ap (λ (call : WrittenTo). call.answer) e) in
    subst LegalImage (written_same (packed list) image room (sym p.writes ∙ e)) (p.legal, packed-words list (length image) p.through)

-- .. and every legal image is written by packing
pub legal-is-packed : (image room : List ℕ) → LegalImage image → length image ≤ length room → (list : List ℕ) × (pack list room ≡ written image room)
legal-is-packed image room legal enough = (unpacked image, legal-writes image legal.0 legal.1 room enough)
