-- The scan and the packing of a list, group after group: one step of each, and that the scan counts the packed words. Assumes nothing.
use Rattle.std.specs.Prelude.{◌≡◌, Bool, true, false, cond, ℕ, zero, suc, ◌+◌, ◌≤◌, ◌<◌, eqb, leb, get_or, drop, Ok, Err}
use Rattle.std.proofs.Math.Path.{refl}
use Rattle.std.proofs.Common.{sym, ◌∙◌, arith, add-zero, length-drop}
use mathlib.Core.List.{List, [], ◌∷◌}
use Rattle.std.proofs.Math.ListN.{length}
use Rattle.model.specs.declared.Kind.{Kind}
use Rattle.model.specs.declared.Kind.TheVariants.{Header, Predicate, Clause, Var, Con, Goal}
use Rattle.model.specs.declared.Refusal.TheVariants.{UnknownOp}
use Rattle.model.specs.Answers.{Scan, refused_at}
use Rattle.model.specs.Fields.{widths_of, kept_fields}
use Rattle.model.specs.Spread.{group_size, kind_of_op, kind_at, packed_word, further, judged, op_known, judged_group, scan_from, packed_from}
use Rattle.spread.specs.GroupLaws.{not_through, through_same, Judged, judged-through}

-- a group has one value at least, and four at most
pub record Size (kind : Kind) : Type 0 where
  pub least : 0 < group_size kind
  pub most : group_size kind ≤ 4

pub size-at : (count number op : ℕ) → Size (kind_at count number op)
unfolding kind_at kind_of_op group_size kept_fields
size-at count number op = go (eqb number 0) (leb number count) (eqb op 1) (eqb op 2) (eqb op 8)
  where
    go : (first? declared? variable? constant? clause? : Bool)
        → Size (cond first? Header (cond declared? Predicate (cond variable? Var (cond constant? Con (cond clause? Clause Goal)))))
    go true d v c k = record { least = omega arith; most = omega arith }
    go false true v c k = record { least = omega arith; most = omega arith }
    go false false true c k = record { least = omega arith; most = omega arith }
    go false false false true k = record { least = omega arith; most = omega arith }
    go false false false false true = record { least = omega arith; most = omega arith }
    go false false false false false = record { least = omega arith; most = omega arith }

-- the kind of the group that the rest of the list begins with
abbrev pub kind_of : ℕ → ℕ → List ℕ → Kind
kind_of count number rest = kind_at count number (get_or rest 0 0)

module _ (count number at : ℕ) (rest : List ℕ) where
  -- a group that is judged through has a known op, and its values fit
  pub record Group (end : ℕ) : Type 0 where
    pub known : op_known count number (get_or rest 0 0) ≡ true
    pub through : judged (widths_of (kind_of count number rest)) (kept_fields (kind_of count number rest)) at rest ≡ Ok end
    pub values : Judged (widths_of (kind_of count number rest)) (kept_fields (kind_of count number rest)) at end rest
    pub ends : end ≡ at + group_size (kind_of count number rest)
    pub long : group_size (kind_of count number rest) ≤ length rest

  pub group-through : (end : ℕ) → judged_group count number at rest ≡ Ok end → Group end
  unfolding judged_group group_size
  group-through end e = go (op_known count number (get_or rest 0 0)) refl e
    where
      kind : Kind
      kind = kind_of count number rest

      go : (known? : Bool) → op_known count number (get_or rest 0 0) ≡ known?
          → cond known? (judged (widths_of (kind_of count number rest)) (kept_fields (kind_of count number rest)) at rest) (refused_at UnknownOp at) ≡ Ok end → Group end
      go true q f =
          let j = judged-through (widths_of (kind_of count number rest)) (kept_fields (kind_of count number rest)) at end rest f in
          record { known = q; through = f; values = j; ends = j.ends; long = j.long }
      go false q f = absurd (not_through f)

  abbrev pub scan_after : ℕ → ℕ → Scan
  scan_after most next = scan_from most count (suc number) next (drop (group_size (kind_of count number rest)) rest)

  pub scan_step : (most : ℕ) → 0 < length rest → scan_from (suc most) count number at rest ≡ further (scan_after most) (judged_group count number at rest)
  unfolding scan_from
  scan_step most h = go rest h
    where
      go : (list : List ℕ) → 0 < length list
          → scan_from (suc most) count number at list ≡ further (λ next. scan_from most count (suc number) next (drop (group_size (kind_of count number list)) list)) (judged_group count number at list)
      go [] l = absurd (omega arith)
      go (value ∷ values) l = refl

  pub packed_step : (most : ℕ) → 0 < length rest
      → packed_from (suc most) count number rest ≡ packed_word (kind_of count number rest) rest ∷ packed_from most count (suc number) (drop (group_size (kind_of count number rest)) rest)
  unfolding packed_from
  packed_step most h = go rest h
    where
      go : (list : List ℕ) → 0 < length list
          → packed_from (suc most) count number list ≡ packed_word (kind_of count number list) list ∷ packed_from most count (suc number) (drop (group_size (kind_of count number list)) list)
      go [] l = absurd (omega arith)
      go (value ∷ values) l = refl

  -- a scan that goes through goes through its first group, and through the rest
  pub record Opened (most words : ℕ) : Type 0 where
    pub end : ℕ
    pub group : Group end
    pub first : judged_group count number at rest ≡ Ok end
    pub others : scan_after most end ≡ Ok words

  pub opened : (most words : ℕ) → 0 < length rest → scan_from (suc most) count number at rest ≡ Ok words → Opened most words
  opened most words h e = go (judged_group count number at rest) refl (sym (scan_step most h) ∙ e)
    where
      go : (found : Scan) → judged_group count number at rest ≡ found → further (scan_after most) found ≡ Ok words → Opened most words
      go (Ok end) q f = record { end = end; group = group-through end q; first = q; others = f }
      go (Err stop) q f = absurd (not_through f)

-- after a group the list is shorter, so what is left of the fuel is enough
pub enough : (count number most : ℕ) (rest : List ℕ) → 0 < length rest → length rest ≤ suc most → length (drop (group_size (kind_of count number rest)) rest) ≤ most
enough count number most rest h l =
    let s = size-at count number (get_or rest 0 0) in
    omega (arith, length-drop (group_size (kind_of count number rest)) rest, s.least)

-- the scan counts the packed words
pub scan-counts : (most count number at words : ℕ) (rest : List ℕ) → length rest ≤ most → scan_from most count number at rest ≡ Ok words
    → number + length (packed_from most count number rest) ≡ words
unfolding scan_from packed_from
scan-counts zero count number at words rest l e = add-zero number ∙ through_same e
scan-counts (suc most) count number at words [] l e = add-zero number ∙ through_same e
scan-counts (suc most) count number at words (value ∷ rest) l e =
    let o = opened count number at (value ∷ rest) most words (omega arith) e in
    let n = scan-counts most count (suc number) o.end words (drop (group_size (kind_at count number value)) (value ∷ rest)) (enough count number most (value ∷ rest) (omega arith) l) o.others in
    omega (arith, n)
