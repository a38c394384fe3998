-- One turn of dereferencing, and how large a variable's number is. Assumes nothing.
use Rattle.std.proofs.Common.{◌≡◌, refl, List, ℕ, zero, suc, ◌+◌, ◌-◌, ◌≤◌, ◌<◌, arith, eq-eqb, ne_eqb}
use Rattle.model.specs.declared.Kind.TheVariants.{Var}
use Rattle.model.specs.declared.Found.TheVariants.{Constant}
use Rattle.model.specs.Fields.{widths_of, variable_number}
use Rattle.model.specs.Memory.{tag, value}
use Rattle.model.specs.Terms.{says, found_said, dereference}
use Rattle.words.proofs.FieldLaws.{field_lt}
use Rattle.words.proofs.Ranges.{left-after, none-left}

-- one turn of so many, and the end of them
module _ (array cells : List ℕ) where
  pub dereference-found : (left at : ℕ) → 0 < left → (tag (says array cells at) ≡ 1 → ⊥) → found_said cells (says array cells at) at ≡ dereference left array cells at
  unfolding dereference
  dereference-found zero at h e = absurd (omega arith)
  dereference-found (suc left) at h e = rw (ne_eqb (tag (says array cells at)) 1 e, dereference) refl

  pub dereference-turn : (i n at : ℕ) → i < n → tag (says array cells at) ≡ 1
      → dereference (n - (i + 1)) array cells (value (says array cells at)) ≡ dereference (n - i) array cells at
  unfolding dereference
  dereference-turn i n at h e = rw (left-after i n h, eq-eqb (tag (says array cells at)) 1 e, dereference) refl

  pub dereference-end : (i n at : ℕ) → n ≤ i → Constant 0 ≡ dereference (n - i) array cells at
  unfolding dereference
  dereference-end i n at h = rw (none-left i n h) refl

pub variable_number-lt : (word : ℕ) → variable_number word < 64
unfolding widths_of
variable_number-lt word = field_lt (widths_of Var) word 2
