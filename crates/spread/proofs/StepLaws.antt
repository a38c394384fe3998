-- One turn of the scan and of the packing of a list, at a place in the list; what `pack` then answers. Assumes nothing.
use mathlib.Core.Path.{◌≡◌, refl, sym, ap, ◌∙◌}
use mathlib.Core.Bool.{true, false}
use mathlib.Core.List.{List, [], ◌∷◌}
use Prim.Native.Nat.{ℕ, zero, suc, ◌+◌, ◌≤◌, ◌<◌}
use native.Mathlib.Omega.{arith}
use native.Mathlib.Nat.{add-zero}
use lib.ListN.{length, get_or, drop, set, length-drop, drop_of_length-le}
use lib.Seq.{get_or-drop, drop-drop, sets}
use Rattle.model.specs.declared.Kind.{Kind}
use Rattle.model.specs.declared.Refusal.{Refusal}
use Rattle.model.specs.declared.Refusal.TheVariants.{UnknownOp}
use Rattle.model.specs.Answers.{Scan, refused_at}
use Rattle.std.proofs.Common.{Ok}
use Rattle.model.specs.Fields.{widths_of, kept_fields}
use Rattle.model.specs.Spread.{group_size, kind_at, packed_word, further, judged, op_known, judged_group, scan_from, packed_from}
use Rattle.spread.specs.ScanLaws.{size-at, kind_of, group-through, scan_step, packed_step, opened, scan-counts}

-- the first value of what is left
first-value : (list : List ℕ) (at : ℕ) → get_or (drop at list) 0 0 ≡ get_or list at 0
first-value list at = get_or-drop at list 0 0 ∙ ap (λ (n : ℕ). get_or list n 0) (add-zero at)

module _ (count number at : ℕ) (list : List ℕ) where
  pub group-unknown : op_known count number (get_or list at 0) ≡ false → refused_at UnknownOp at ≡ judged_group count number at (drop at list)
  unfolding judged_group
  group-unknown q = rw (first-value list at, q) refl

  pub group-known : (kind : Kind) (found : Scan) → op_known count number (get_or list at 0) ≡ true → kind ≡ kind_at count number (get_or list at 0)
      → found ≡ judged (widths_of kind) (kept_fields kind) at (drop at list) → found ≡ judged_group count number at (drop at list)
  unfolding judged_group
  group-known kind found q is e =
      rw (first-value list at, q) (e ∙ ap (λ (k : Kind). judged (widths_of k) (kept_fields k) at (drop at list)) is)

  -- the kind of the group that stands at the place
  abbrev pub here : Kind
  here = kind_at count number (get_or list at 0)

  -- a scan that reaches a place with fuel enough takes its group, and goes on with fuel enough
  pub record Turn (most next : ℕ) : Type 0 where
    pub left : ℕ
    pub fuel : length list ≤ next + left
    pub ahead : at < next
    pub inside : next ≤ length list
    pub ends : next ≡ at + group_size here
    pub through : judged (widths_of here) (kept_fields here) at (drop at list) ≡ Ok next
    pub scans : scan_from left count (number + 1) next (drop next list) ≡ scan_from most count number at (drop at list)
    pub packs : packed_from most count number (drop at list) ≡ packed_word here (drop at list) ∷ packed_from left count (number + 1) (drop next list)

  rest-nonempty : at < length list → 0 < length (drop at list)
  rest-nonempty h = omega (arith, length-drop at list)

  pub turn : (most next : ℕ) → at < length list → length list ≤ at + most → judged_group count number at (drop at list) ≡ Ok next → Turn most next
  turn zero next h l e = absurd (omega arith)
  turn (suc most) next h l e =
      let g = group-through count number at (drop at list) next e in
      let k = ap (kind_at count number) (first-value list at) in
      let n : next ≡ at + group_size here = g.ends ∙ ap (λ (kind : Kind). at + group_size kind) k in
      let s = size-at count number (get_or list at 0) in
      let d : drop (group_size (kind_of count number (drop at list))) (drop at list) ≡ drop next list =
      drop-drop (group_size (kind_of count number (drop at list))) at list ∙ ap (λ (m : ℕ). drop m list) (sym g.ends) in
      let a : number + 1 ≡ suc number = omega arith in
      record {
        left = most;
        fuel = omega (arith, n, s.least);
        ahead = omega (arith, n, s.least);
        inside = omega (arith, g.ends, g.long, length-drop at list);
        ends = n;
        through = ap (λ (kind : Kind). judged (widths_of kind) (kept_fields kind) at (drop at list)) (sym k) ∙ g.through;
        scans = rw a (sym (scan_step count number at (drop at list) most (rest-nonempty h) ∙ ap (further (λ end. scan_from most count (suc number) end (drop (group_size (kind_of count number (drop at list))) (drop at list)))) e ∙ ap (scan_from most count (suc number) next) d));
        packs = rw a (packed_step count number at (drop at list) most (rest-nonempty h) ∙ ap (λ (rest : List ℕ). packed_word (kind_of count number (drop at list)) (drop at list) ∷ packed_from most count (suc number) rest) d
            ∙ ap (λ (kind : Kind). packed_word kind (drop at list) ∷ packed_from most count (suc number) (drop next list)) k);
      }

  pub stops : (most place : ℕ) (refusal : Refusal) → at < length list → length list ≤ at + most → refused_at refusal place ≡ judged_group count number at (drop at list)
      → refused_at refusal place ≡ scan_from most count number at (drop at list)
  stops zero place refusal h l e = absurd (omega arith)
  stops (suc most) place refusal h l e =
      sym (scan_step count number at (drop at list) most (rest-nonempty h)
      ∙ ap (further (λ end. scan_from most count (suc number) end (drop (group_size (kind_of count number (drop at list))) (drop at list)))) (sym e))

  -- a scan that goes through takes the group that stands at the place
  pub takes : (most words : ℕ) → at < length list → length list ≤ at + most → scan_from most count number at (drop at list) ≡ Ok words
      → (next : ℕ) × (judged_group count number at (drop at list) ≡ Ok next)
  takes zero words h l e = absurd (omega arith)
  takes (suc most) words h l e = let o = opened count number at (drop at list) most words (rest-nonempty h) e in (o.end, o.first)

  pub scan-over : (most : ℕ) → length list ≤ at → Ok number ≡ scan_from most count number at (drop at list)
  unfolding scan_from
  scan-over zero h = refl
  scan-over (suc most) h = rw (drop_of_length-le list h) refl

  pub pack-over : (most : ℕ) → length list ≤ at → packed_from most count number (drop at list) ≡ []
  unfolding packed_from
  pack-over zero h = refl
  pack-over (suc most) h = rw (drop_of_length-le list h) refl

  -- the words that are still to be packed are those still to be counted
  pub counted : (most words : ℕ) → length list ≤ at + most → scan_from most count number at (drop at list) ≡ Ok words
      → number + length (packed_from most count number (drop at list)) ≡ words
  counted most words l e = scan-counts most count number at words (drop at list) (omega (arith, length-drop at list)) e

  pub stores-word : (words : List ℕ) (word most left next : ℕ) → word ≡ packed_word here (drop at list)
      → packed_from most count number (drop at list) ≡ packed_word here (drop at list) ∷ packed_from left count (number + 1) (drop next list)
      → sets (set words number word) (number + 1) (packed_from left count (number + 1) (drop next list)) ≡ sets words number (packed_from most count number (drop at list))
  stores-word words word most left next is e =
      let a : number + 1 ≡ suc number = omega arith in
      ap (λ (n : ℕ). sets (set words number word) n (packed_from left count (number + 1) (drop next list))) a
      ∙ ap (λ (w : ℕ). sets words number (w ∷ packed_from left count (number + 1) (drop next list))) is ∙ sym (ap (sets words number) e)
