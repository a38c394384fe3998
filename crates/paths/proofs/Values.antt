-- What a sound value word says: a VNO says its own number, a REF leads to a variable on the path with a lower number.
-- Document 01, "Shared memory" on values, and "Refused calls", condition 21, on cells and trail values. Assumes nothing.
use Rattle.std.specs.Prelude.{◌≡◌, refl, Bool, true, false, ◌&&◌, ◌||◌, List, [], ◌∷◌, ℕ, ◌+◌, ◌/◌, ◌%◌, ◌<◌, eqb, ltb, get_or}
use Rattle.std.proofs.Common.{ap, ◌∙◌, arith, mod-eq_of_lt}
use borrow.Author.Tests.{eqb-true, ne_eqb, ltb-true, lt-ltb}
use Rattle.model.specs.declared.Kind.TheVariants.{Value}
use Rattle.model.specs.Fields.{widths_of, field, below, total}
use Rattle.model.specs.Memory.{depth, own_variables, base, cut_to, word_of, vno_word, tag, value, cell_of}
use Rattle.model.specs.Damage.{on_path, ref_sound, value_sound, cell_sound}
use Rattle.words.proofs.FieldLaws.{field-join}
use Rattle.memory.proofs.FieldBounds.{base-lt}
use Rattle.paths.proofs.Held.{and-held, four-held, or-second, cond-first, cond-second}
use Rattle.paths.specs.Ancestors.{Ancestor}
use Rattle.paths.specs.Values.{Reach, number_of, Leads}

pub vno-fields : (number : ℕ) → number < 536870912 → (tag (vno_word number) ≡ 0) × (value (vno_word number) ≡ number)
unfolding word_of cut_to widths_of
vno-fields number h =
    let read = field-join (widths_of Value) (0 ∷ number % 536870912 ∷ []) (omega arith, (omega arith, tt)) in
    (read 0, read 1 ∙ mod-eq_of_lt h)

-- no tag at all is in the word 0
pub zero-tag : tag 0 ≡ 0
unfolding field below total widths_of
zero-tag = refl

module _ (nodes : List ℕ) (slot number word : ℕ) where
  -- a sound value is no VNO
  pub value-tag : value_sound nodes slot number word ≡ true → tag word ≡ 0 → ⊥
  unfolding value_sound
  value-tag e z =
      let ref = cond-second (eqb (tag word) 2) (ltb (value word) 268435456) (eqb (tag word) 1 && ref_sound nodes slot number (value word)) e
      (ne_eqb (tag word) 2 (λ t. absurd (omega (arith, t, z)))) in
      let one = eqb-true (tag word) 1 (and-held (eqb (tag word) 1) (ref_sound nodes slot number (value word)) ref).0 in
      absurd (omega (arith, one, z))

  -- a sound REF of a slot on the path to a node
  pub value-leads : (node : ℕ) → Ancestor nodes node slot → value_sound nodes slot number word ≡ true → Leads nodes node number word
  unfolding value_sound ref_sound
  value-leads node a e one =
      let address = value word in
      let ref = cond-second (eqb (tag word) 2) (ltb (value word) 268435456) (eqb (tag word) 1 && ref_sound nodes slot number (value word)) e
      (ne_eqb (tag word) 2 (λ t. absurd (omega (arith, t, one)))) in
      let rule = four-held (ltb address 2048) (ltb (address % 32) (own_variables nodes (address / 32))) (ltb (base nodes (address / 32) + address % 32) number)
      (on_path (depth nodes slot) nodes slot (address / 32)) (and-held (eqb (tag word) 1) (ref_sound nodes slot number (value word)) ref).1 in (
        (ltb-true address 2048 rule.0, ltb-true (address % 32) (own_variables nodes (address / 32)) rule.1, a.path (address / 32) rule.3),
        ltb-true (base nodes (address / 32) + address % 32) number rule.2,
      )

-- a cell of a slot's variable: its own VNO, or a value
module _ (nodes cells : List ℕ) (slot variable : ℕ) (own : variable < own_variables nodes slot) (small : variable < 32) (held : cell_sound nodes cells slot variable ≡ true) where
  abbrev cell : ℕ
  cell = get_or cells (cell_of slot variable) 0

  either : (eqb (get_or cells (cell_of slot variable) 0) (vno_word (base nodes slot + variable)) || value_sound nodes slot (base nodes slot + variable) (get_or cells (cell_of slot variable) 0)) ≡ true
  unfolding cell_sound
  either =
      cond-first (ltb variable (own_variables nodes slot)) (eqb cell (vno_word (base nodes slot + variable)) || value_sound nodes slot (base nodes slot + variable) cell) (eqb cell 0) held
      (lt-ltb variable (own_variables nodes slot) own)

  fields : (tag (vno_word (base nodes slot + variable)) ≡ 0) × (value (vno_word (base nodes slot + variable)) ≡ base nodes slot + variable)
  fields = vno-fields (base nodes slot + variable) (omega (arith, base-lt nodes slot))

  pub cell-number : tag (get_or cells (cell_of slot variable) 0) ≡ 0 → value (get_or cells (cell_of slot variable) 0) ≡ base nodes slot + variable
  cell-number none = go (eqb cell (vno_word (base nodes slot + variable))) refl
    where
      go : (b : Bool) → eqb cell (vno_word (base nodes slot + variable)) ≡ b → value cell ≡ base nodes slot + variable
      go true q = ap value (eqb-true cell (vno_word (base nodes slot + variable)) q) ∙ fields.1
      go false q =
          absurd (value-tag nodes slot (base nodes slot + variable) cell
          (or-second (eqb cell (vno_word (base nodes slot + variable))) (value_sound nodes slot (base nodes slot + variable) cell) either q) none)

  pub cell-leads : (node : ℕ) → Ancestor nodes node slot → Leads nodes node (base nodes slot + variable) (get_or cells (cell_of slot variable) 0)
  cell-leads node a one = go (eqb cell (vno_word (base nodes slot + variable))) refl
    where
      go : (b : Bool) → eqb cell (vno_word (base nodes slot + variable)) ≡ b → Reach nodes node (value cell) × (number_of nodes (value cell) < base nodes slot + variable)
      go true q = let z : tag cell ≡ 0 = ap tag (eqb-true cell (vno_word (base nodes slot + variable)) q) ∙ fields.0 in absurd (omega (arith, z, one))
      go false q =
          value-leads nodes slot (base nodes slot + variable) cell node a
          (or-second (eqb cell (vno_word (base nodes slot + variable))) (value_sound nodes slot (base nodes slot + variable) cell) either q) one
