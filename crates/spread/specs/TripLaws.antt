-- Whole lists and whole images: each is the other's spread or packed form; and what a call that answers `Done` has done. Assumes nothing.
use Rattle.std.specs.Prelude.{◌≡◌, refl, Bool, true, false, cond, List, [], ◌∷◌, ℕ, ◌+◌, ◌≤◌, ◌<◌, leb, length, get_or, take, drop, Ok, Err}
use Rattle.std.proofs.Common.{sym, ap₂, subst, ◌∙◌, arith, le_refl, zero-add, get_or-take, leb-true, le-leb}
use Rattle.std.proofs.Math.Path.{ap}
use Rattle.std.proofs.Math.Seq.{take-append_seam}
use Rattle.model.specs.declared.Kind.TheVariants.{Header}
use Rattle.model.specs.declared.Refusal.{Refusal}
use Rattle.model.specs.declared.Refusal.TheVariants.{Room}
use Rattle.model.specs.Answers.{Scan, Verdict, Written, refused_at}
use Rattle.model.specs.Fields.{widths_of, kept_fields, predicate_count}
use Rattle.model.specs.Image.{check_image}
use Rattle.model.specs.Encoding.{Words}
use Rattle.model.specs.Spread.{spread_fields, spread_word, packed_word, group_size, kind_at, unpacked_from, unpacked, judged, scan_from, scan, packed_from, packed, WrittenTo, written_to, written, write_out, if_scanned, if_checked, pack, unpack}
use Rattle.spread.specs.GroupLaws.{through_same, Judged, join-group}
use Rattle.spread.specs.WordLaws.{spread-packed}
use Rattle.spread.specs.ScanLaws.{opened, packed_step, scan-counts}
use Rattle.spread.specs.ImageLaws.{walked, image-stands}
use Rattle.spread.specs.ListLaws.{scan-unpacked, packed-unpacked, unpacked-packed}

-- the header is the first group of a list that is scanned through, and the first packed word
pub record First (list : List ℕ) : Type 0 where
  pub through : judged (widths_of Header) (kept_fields Header) 0 list ≡ Ok (0 + group_size Header)
  pub packs : get_or (packed list) 0 0 ≡ packed_word Header list
  pub values : Judged (widths_of Header) (kept_fields Header) 0 (0 + group_size Header) list

pub first_group : (list : List ℕ) (count : ℕ) → 0 < count → scan list ≡ Ok count → First list
unfolding scan packed scan_from kind_at
first_group [] count h e = absurd (omega (arith, through_same e))
first_group (value ∷ rest) count h e =
    let o = opened (get_or (value ∷ rest) 1 0) 0 0 (value ∷ rest) (length rest) count (omega arith) e in
    let p = packed_step (get_or (value ∷ rest) 1 0) 0 0 (value ∷ rest) (length rest) (omega arith) in
    record {
      through = o.group.through ∙ ap Ok o.group.ends;
      packs = ap (λ (words : List ℕ). get_or words 0 0) p;
      values = subst (λ (end : ℕ). Judged (widths_of Header) (kept_fields Header) 0 end (value ∷ rest)) o.group.ends o.group.values;
    }

pub packed-count : (list : List ℕ) (count : ℕ) → scan list ≡ Ok count → length (packed list) ≡ count
unfolding packed scan
packed-count list count e = sym (zero-add (length (packed_from (length list) (get_or list 1 0) 0 list))) ∙ scan-counts (length list) (get_or list 1 0) 0 0 count list (omega arith) e

-- the header's second value is the count of predicates, in both forms
count-unpacked : (image : List ℕ) → 0 < length image → get_or (unpacked image) 1 0 ≡ predicate_count (get_or image 0 0)
unfolding unpacked unpacked_from kind_at spread_word spread_fields kept_fields
count-unpacked [] h = absurd (omega arith)
count-unpacked (word ∷ words) h = refl

count-packed : (list : List ℕ) (count : ℕ) → 0 < count → scan list ≡ Ok count → predicate_count (get_or (packed list) 0 0) ≡ get_or list 1 0
unfolding packed_word group_size spread_word spread_fields kept_fields
count-packed list count h e =
    let f = first_group list count h e in
    let s = ap (spread_word Header) (join-group (widths_of Header) (kept_fields Header) list) ∙ spread-packed Header (take 3 list) f.values.fit in
    ap predicate_count f.packs ∙ ap (λ (values : List ℕ). get_or values 1 0) s ∙ get_or-take 3 list 1 0 (omega arith)

pub pack-writes : (list room : List ℕ) (count : ℕ) → scan list ≡ Ok count → check_image (packed list) ≡ Ok tt → length (packed list) ≤ length room
    → pack list room ≡ written (packed list) room
unfolding pack write_out
pack-writes list room count through legal enough = rw (through, legal, le-leb (length (packed list)) (length room) enough) refl

module _ (image : List ℕ) (legal : check_image image ≡ Ok tt) (small : Words image) where
  pub legal-scans : scan (unpacked image) ≡ Ok (length image)
  unfolding scan unpacked
  legal-scans =
      let list = unpacked image in
      let count = predicate_count (get_or image 0 0) in
      ap (λ (n : ℕ). scan_from (length list) n 0 0 list) (count-unpacked image (walked image legal).some)
      ∙ scan-unpacked (length list) count 0 0 image (image-stands image legal small) (le_refl (length list)) ∙ ap Ok (zero-add (length image))

  pub legal-packs : packed (unpacked image) ≡ image
  unfolding packed unpacked
  legal-packs =
      let list = unpacked image in
      let count = predicate_count (get_or image 0 0) in
      ap (λ (n : ℕ). packed_from (length list) n 0 list) (count-unpacked image (walked image legal).some)
      ∙ packed-unpacked (length list) count 0 image (image-stands image legal small) (le_refl (length list))

  -- packing the spread form of a legal image writes the image
  pub legal-writes : (room : List ℕ) → length image ≤ length room → pack (unpacked image) room ≡ written image room
  legal-writes room enough =
      pack-writes (unpacked image) room (length image) legal-scans (ap check_image legal-packs ∙ legal) (rw legal-packs enough)
      ∙ ap (λ (words : List ℕ). written words room) legal-packs

module _ (list : List ℕ) (count : ℕ) (through : scan list ≡ Ok count) where
  pub packed-words : Words (packed list)
  unfolding packed scan
  packed-words = (unpacked-packed (length list) (get_or list 1 0) 0 0 count list (le_refl (length list)) through).small

  pub packed-back : 0 < count → unpacked (packed list) ≡ list
  unfolding unpacked packed scan
  packed-back h =
      ap (λ (n : ℕ). unpacked_from n 0 (packed list)) (count-packed list count h through)
      ∙ (unpacked-packed (length list) (get_or list 1 0) 0 0 count list (le_refl (length list)) through).whole

-- what it takes that packing answers `Done`
pub record Packs (list room : List ℕ) (count : ℕ) : Type 0 where
  pub through : scan list ≡ Ok count
  pub legal : check_image (packed list) ≡ Ok tt
  pub counts : length (packed list) ≡ count
  pub enough : count ≤ length room
  pub writes : pack list room ≡ written (packed list) room

abbrev IsDone : Written → Type 0
IsDone (Ok count) = Unit {0}
IsDone (Err stop) = ⊥

refused-done : {A : Type 0} {refusal : Refusal} {at count : ℕ} → refused_at refusal at ≡ Ok count → A
refused-done e = absurd (subst IsDone (sym e) tt)

abbrev count_of : Written → ℕ
count_of (Ok count) = count
count_of (Err stop) = stop.1

pub pack-done : (list room : List ℕ) (count : ℕ) → (pack list room).answer ≡ Ok count → Packs list room count
unfolding pack write_out
pack-done list room count e = go (scan list) refl (check_image (packed list)) refl (leb (length (packed list)) (length room)) refl e
  where
    go : (scanned : Scan) → scan list ≡ scanned → (checked : Verdict) → check_image (packed list) ≡ checked → (enough? : Bool) → leb (length (packed list)) (length room) ≡ enough?
        → (if_scanned scanned room (if_checked checked room (cond enough? (written (packed list) room) (written_to (refused_at Room 0) room)))).answer ≡ Ok count → Packs list room count
    go (Ok words) s (Ok u) c true l f =
        let n : length (packed list) ≡ count = ap count_of f in
        record {
          through = s ∙ ap Ok (sym (packed-count list words s) ∙ n);
          legal = c;
          counts = n;
          enough = omega (arith, leb-true (length (packed list)) (length room) l);
          writes = rw (s, c, l) refl;
        }
    go (Ok words) s (Ok u) c false l f = refused-done f
    go (Ok words) s (Err stop) c enough? l f = refused-done f
    go (Err stop) s checked c enough? l f = refused-done f

pub unpack-writes : (image room : List ℕ) → check_image image ≡ Ok tt → length (unpacked image) ≤ length room → unpack image room ≡ written (unpacked image) room
unfolding unpack write_out
unpack-writes image room legal enough = rw (legal, le-leb (length (unpacked image)) (length room) enough) refl

-- what was written is one list
pub written_same : (words others room : List ℕ) → written words room ≡ written others room → words ≡ others
written_same words others room e =
    let n : length words ≡ length others = ap (λ (call : WrittenTo). count_of call.answer) e in
    sym (take-append_seam words (drop (length words) room)) ∙ ap₂ (λ (m : ℕ) (left : List ℕ). take m left) n (ap (λ (call : WrittenTo). call.room) e)
    ∙ take-append_seam others (drop (length others) room)
