-- Joining the values of a group and spreading a word undo each other, by the field law. Document 01, "one field per word, zero fields dropped".
-- Assumes nothing.
use Rattle.std.specs.Prelude.{◌≡◌, refl, List, [], ◌∷◌, ℕ, ◌^◌, ◌<◌, get_or}
use Rattle.std.proofs.Common.{sym, ap₂, ◌∙◌, arith, lit<}
use Rattle.std.proofs.Math.Path.{ap}
use Rattle.model.specs.declared.Kind.{Kind}
use Rattle.model.specs.declared.Kind.TheVariants.{Header, Predicate, Clause, Var, Con, Goal, Node0, Node1, Node2, Node3, Value}
use Rattle.model.specs.Fields.{widths_of, kept_fields, total, below, field, fields, join, header_zero, variable_zero, goal_zero}
use Rattle.model.specs.Spread.{spread_fields, spread_word, join_fields, packed_word}
use Rattle.words.specs.FieldLaws.{Fit}
use Rattle.words.proofs.FieldLaws.{join-lt, fields_join, join-fields, fields_at, field_lt}
use Rattle.words.proofs.TableLaws.{row-of}
use Rattle.spread.specs.GroupLaws.{kept_widths, GroupFits}

-- some values of a list, by their places
unfoldable pub chosen : List ℕ → List ℕ → List ℕ
chosen [] values = []
chosen (i ∷ kept) values = get_or values i 0 ∷ chosen kept values

pub spread-chosen : (widths kept : List ℕ) (word : ℕ) → word < 2 ^ total widths → spread_fields widths kept word ≡ chosen kept (fields widths word)
unfolding spread_fields chosen
spread-chosen widths [] word h = refl
spread-chosen widths (i ∷ kept) word h = ap₂ (λ (value : ℕ) (values : List ℕ). value ∷ values) (sym (fields_at widths word h i)) (spread-chosen widths kept word h)

-- the values of all fields, 0 in the zero field
record Full (kind : Kind) (values : List ℕ) : Type 0 where
  full : List ℕ
  fit : Fit (widths_of kind) full
  joins : packed_word kind values ≡ join (widths_of kind) full
  picks : chosen (kept_fields kind) full ≡ values

-- values that fit, to match on: each kind has so many
data Fitting : List ℕ → List ℕ → Type 0 where
  none : Fitting [] []
  more : {width value : ℕ} {widths values : List ℕ} → value < 2 ^ width → Fitting widths values → Fitting (width ∷ widths) (value ∷ values)

fitting : (widths values : List ℕ) → Fit widths values → Fitting widths values
fitting [] [] fit = none
fitting [] (value ∷ values) fit = absurd fit
fitting (width ∷ widths) [] fit = absurd fit
fitting (width ∷ widths) (value ∷ values) fit = more fit.0 (fitting widths values fit.1)

full-of : (kind : Kind) (values : List ℕ) → Fitting (kept_widths (widths_of kind) (kept_fields kind)) values → Full kind values
unfolding widths_of kept_fields kept_widths packed_word join_fields join total below chosen
full-of Header _ (more {value = a} ha (more {value = b} hb (more {value = c} hc none))) =
    record { full = a ∷ b ∷ 0 ∷ c ∷ []; fit = (ha, (hb, (lit< tt, (hc, tt)))); joins = omega arith; picks = refl }
full-of Predicate _ (more {value = a} ha (more {value = b} hb (more {value = c} hc (more {value = d} hd none)))) =
    record { full = a ∷ b ∷ c ∷ d ∷ []; fit = (ha, (hb, (hc, (hd, tt)))); joins = refl; picks = refl }
full-of Clause _ (more {value = a} ha (more {value = b} hb (more {value = c} hc (more {value = d} hd none)))) =
    record { full = a ∷ b ∷ c ∷ d ∷ []; fit = (ha, (hb, (hc, (hd, tt)))); joins = refl; picks = refl }
full-of Var _ (more {value = a} ha (more {value = b} hb none)) =
    record { full = a ∷ 0 ∷ b ∷ []; fit = (ha, (lit< tt, (hb, tt))); joins = omega arith; picks = refl }
full-of Con _ (more {value = a} ha (more {value = b} hb none)) =
    record { full = a ∷ b ∷ []; fit = (ha, (hb, tt)); joins = refl; picks = refl }
full-of Goal _ (more {value = a} ha (more {value = b} hb none)) =
    record { full = a ∷ b ∷ 0 ∷ []; fit = (ha, (hb, (lit< tt, tt))); joins = omega arith; picks = refl }
full-of Node0 _ (more {value = a} ha (more {value = b} hb (more {value = c} hc (more {value = d} hd (more {value = e} he none))))) =
    record { full = a ∷ b ∷ c ∷ d ∷ e ∷ 0 ∷ []; fit = (ha, (hb, (hc, (hd, (he, (lit< tt, tt)))))); joins = omega arith; picks = refl }
full-of Node1 _ (more {value = a} ha (more {value = b} hb none)) =
    record { full = a ∷ 0 ∷ b ∷ []; fit = (ha, (lit< tt, (hb, tt))); joins = omega arith; picks = refl }
full-of Node2 _ (more {value = a} ha (more {value = b} hb (more {value = c} hc (more {value = d} hd none)))) =
    record { full = a ∷ b ∷ c ∷ d ∷ 0 ∷ []; fit = (ha, (hb, (hc, (hd, (lit< tt, tt))))); joins = omega arith; picks = refl }
full-of Node3 _ none = record { full = 0 ∷ []; fit = (lit< tt, tt); joins = omega arith; picks = refl }
full-of Value _ (more {value = a} ha (more {value = b} hb none)) =
    record { full = a ∷ b ∷ []; fit = (ha, (hb, tt)); joins = refl; picks = refl }

full : (kind : Kind) (values : List ℕ) → GroupFits kind values → Full kind values
full kind values fit = full-of kind values (fitting (kept_widths (widths_of kind) (kept_fields kind)) values fit)

-- the fields of every kind fill the word
whole : (kind : Kind) (word : ℕ) → word < 4294967296 → word < 2 ^ total (widths_of kind)
whole kind word h = rw (row-of kind).whole h

module _ (kind : Kind) (values : List ℕ) (fit : GroupFits kind values) where
  -- the word of a group that fits is a word
  pub packed_lt : packed_word kind values < 4294967296
  packed_lt =
      let f = full kind values fit in
      let h : join (widths_of kind) f.full < 2 ^ total (widths_of kind) = join-lt (widths_of kind) f.full f.fit in
      rw f.joins (rw (row-of kind).whole at h)

  -- joining, then spreading
  pub spread-packed : spread_word kind (packed_word kind values) ≡ values
  unfolding spread_word
  spread-packed =
      let f = full kind values fit in
      spread-chosen (widths_of kind) (kept_fields kind) (packed_word kind values) (whole kind (packed_word kind values) packed_lt)
      ∙ ap (λ (word : ℕ). chosen (kept_fields kind) (fields (widths_of kind) word)) f.joins
      ∙ ap (chosen (kept_fields kind)) (fields_join (widths_of kind) f.full f.fit)
      ∙ f.picks

-- the zero field of a word of a kind is 0
unfoldable pub ZeroFields : Kind → ℕ → Type 0
ZeroFields Header word = header_zero word ≡ 0
ZeroFields Predicate word = Unit {0}
ZeroFields Clause word = Unit {0}
ZeroFields Var word = variable_zero word ≡ 0
ZeroFields Con word = Unit {0}
ZeroFields Goal word = goal_zero word ≡ 0
ZeroFields Node0 word = field (widths_of Node0) word 5 ≡ 0
ZeroFields Node1 word = field (widths_of Node1) word 1 ≡ 0
ZeroFields Node2 word = field (widths_of Node2) word 4 ≡ 0
ZeroFields Node3 word = field (widths_of Node3) word 0 ≡ 0
ZeroFields Value word = Unit {0}

-- a word is joined from all its fields
all-joined : (kind : Kind) (all : List ℕ) (word : ℕ) → word < 4294967296 → chosen all (fields (widths_of kind) word) ≡ fields (widths_of kind) word
    → join (widths_of kind) (spread_fields (widths_of kind) all word) ≡ word
all-joined kind all word h e =
    ap (join (widths_of kind)) (spread-chosen (widths_of kind) all word (whole kind word h) ∙ e) ∙ join-fields (widths_of kind) word (whole kind word h)

-- spreading, then joining
pub packed-spread : (kind : Kind) (word : ℕ) → word < 4294967296 → ZeroFields kind word → packed_word kind (spread_word kind word) ≡ word
unfolding ZeroFields widths_of kept_fields total below fields join join_fields spread_fields spread_word packed_word chosen
packed-spread Header word h z = omega (arith, z, all-joined Header (0 ∷ 1 ∷ 2 ∷ 3 ∷ []) word h refl)
packed-spread Predicate word h z = all-joined Predicate (0 ∷ 1 ∷ 2 ∷ 3 ∷ []) word h refl
packed-spread Clause word h z = all-joined Clause (0 ∷ 1 ∷ 2 ∷ 3 ∷ []) word h refl
packed-spread Var word h z = omega (arith, z, all-joined Var (0 ∷ 1 ∷ 2 ∷ []) word h refl)
packed-spread Con word h z = all-joined Con (0 ∷ 1 ∷ []) word h refl
packed-spread Goal word h z = omega (arith, z, all-joined Goal (0 ∷ 1 ∷ 2 ∷ []) word h refl)
packed-spread Node0 word h z = omega (arith, z, all-joined Node0 (0 ∷ 1 ∷ 2 ∷ 3 ∷ 4 ∷ 5 ∷ []) word h refl)
packed-spread Node1 word h z = omega (arith, z, all-joined Node1 (0 ∷ 1 ∷ 2 ∷ []) word h refl)
packed-spread Node2 word h z = omega (arith, z, all-joined Node2 (0 ∷ 1 ∷ 2 ∷ 3 ∷ 4 ∷ []) word h refl)
packed-spread Node3 word h z = omega (arith, z, all-joined Node3 (0 ∷ []) word h refl)
packed-spread Value word h z = all-joined Value (0 ∷ 1 ∷ []) word h refl

-- what is spread fits
spread-fits : (widths kept : List ℕ) (word : ℕ) → Fit (kept_widths widths kept) (spread_fields widths kept word)
unfolding kept_widths spread_fields
spread-fits widths [] word = tt
spread-fits widths (i ∷ kept) word = (field_lt widths word i, spread-fits widths kept word)

pub spread_word-fits : (kind : Kind) (word : ℕ) → GroupFits kind (spread_word kind word)
unfolding spread_word
spread_word-fits kind word = spread-fits (widths_of kind) (kept_fields kind) word
