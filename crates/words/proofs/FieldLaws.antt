-- What joining and reading fields have to do with each other, over any list of widths: document 01, "Rule image", "Fields are listed most significant first".
-- Fields joined into a word are read back from it; the fields of a word, joined, give the word. Assumes nothing.
use Rattle.std.proofs.Common.{◌≡◌, refl, List, [], ◌∷◌, ℕ, zero, suc, ◌+◌, ◌-◌, ◌*◌, ◌/◌, ◌%◌, ◌^◌, ◌<◌, length, get_or, drop, sym, ap, ap₂, subst, ◌∙◌, arith, zero-lt-suc, mod-lt, mod-eq_of_lt, zero-add, add-zero, pow-add, pow_pos, shr_lt}
use Rattle.std.proofs.Math.Nat.{mod-one}
use Rattle.std.proofs.Math.Arith.{digits_lt}
use Rattle.std.proofs.Math.Pow.{high, low, split as halves, field as mod-field, mod-mod-pow}
use Rattle.model.specs.Fields.{total, below, field, fields, join}
use Rattle.words.specs.FieldLaws.{Fit, fields_from}

pub join-lt : (widths values : List ℕ) → Fit widths values → join widths values < 2 ^ total widths
unfolding join total
join-lt [] [] fit = zero-lt-suc 0
join-lt [] (value ∷ values) fit = absurd fit
join-lt (width ∷ widths) [] fit = absurd fit
join-lt (width ∷ widths) (value ∷ values) fit =
    subst (λ (m : ℕ). value * 2 ^ total widths + join widths values < m) (sym (pow-add 2 width (total widths))) (digits_lt fit.0 (join-lt widths values fit.1))

pub fields_join : (widths values : List ℕ) → Fit widths values → fields widths (join widths values) ≡ values
unfolding join fields
fields_join [] [] fit = refl
fields_join [] (value ∷ values) fit = absurd fit
fields_join (width ∷ widths) [] fit = absurd fit
fields_join (width ∷ widths) (value ∷ values) fit =
    let small = join-lt widths values fit.1 in
    ap₂ (λ (a : ℕ) (b : List ℕ). a ∷ b) (high value (total widths) small)
    (ap (fields widths) (low value (total widths) small) ∙ fields_join widths values fit.1)

pub join-fields : (widths : List ℕ) (word : ℕ) → word < 2 ^ total widths → join widths (fields widths word) ≡ word
unfolding join fields total
join-fields [] word h = omega arith
join-fields (width ∷ widths) word h =
    ap (λ (m : ℕ). word / 2 ^ total widths * 2 ^ total widths + m) (join-fields widths (word % 2 ^ total widths) (mod-lt word (pow_pos (total widths))))
    ∙ halves word (total widths)

-- the bits above field i, its own, and those below
pub total-parts : (widths : List ℕ) (i : ℕ) → (above : ℕ) × (total widths ≡ (above + get_or widths i 0) + below widths i)
unfolding total below
total-parts [] i = (0, refl)
total-parts (width ∷ widths) zero = (0, omega arith)
total-parts (width ∷ widths) (suc i) = (width + (total-parts widths i).0, omega (arith, (total-parts widths i).1))

-- the bits below a field are the next field's and those below it
pub below_next : (widths : List ℕ) (i : ℕ) → below widths i ≡ get_or widths (suc i) 0 + below widths (suc i)
unfolding below total
below_next [] i = refl
below_next (width ∷ []) zero = refl
below_next (width ∷ (next ∷ widths)) zero = refl
below_next (width ∷ widths) (suc i) = below_next widths i

pub below-back : (widths : List ℕ) (i : ℕ) → 0 < i → below widths (i - 1) ≡ get_or widths i 0 + below widths i
below-back widths zero h = absurd (omega arith)
below-back widths (suc i) h = let e : suc i - 1 ≡ i = omega arith in rw e (below_next widths i)

-- bits above the field do not matter to it
field-low : (word above width bits : ℕ) → word % 2 ^ ((above + width) + bits) / 2 ^ bits % 2 ^ width ≡ word / 2 ^ bits % 2 ^ width
field-low word above width bits = ap (λ (m : ℕ). m % 2 ^ width) (mod-field word (above + width) bits) ∙ mod-mod-pow (word / 2 ^ bits) above width

-- a field by itself is the list's element
pub fields_at : (widths : List ℕ) (word : ℕ) → word < 2 ^ total widths → (i : ℕ) → get_or (fields widths word) i 0 ≡ field widths word i
unfolding fields field below total
fields_at [] word h i = sym (mod-one (word / 2 ^ total (drop (suc i) [])))
fields_at (width ∷ widths) word h zero = sym (mod-eq_of_lt (shr_lt width (total widths) h))
fields_at (width ∷ widths) word h (suc i) =
    fields_at widths (word % 2 ^ total widths) (mod-lt word (pow_pos (total widths))) i
    ∙ ap (λ (m : ℕ). word % 2 ^ m / 2 ^ below widths i % 2 ^ get_or widths i 0) (total-parts widths i).1
    ∙ field-low word (total-parts widths i).0 (get_or widths i 0) (below widths i)

-- what was joined is read back, field by field
pub field-join : (widths values : List ℕ) → Fit widths values → (i : ℕ) → field widths (join widths values) i ≡ get_or values i 0
field-join widths values fit i =
    sym (fields_at widths (join widths values) (join-lt widths values fit) i) ∙ ap (λ (l : List ℕ). get_or l i 0) (fields_join widths values fit)

pub field_lt : (widths : List ℕ) (word i : ℕ) → field widths word i < 2 ^ get_or widths i 0
unfolding field
field_lt widths word i = mod-lt (word / 2 ^ below widths i) (pow_pos (get_or widths i 0))

length_fields : (widths : List ℕ) (word : ℕ) → length (fields widths word) ≡ length widths
unfolding fields
length_fields [] word = refl
length_fields (width ∷ widths) word = ap suc (length_fields widths (word % 2 ^ total widths))

-- a word is the one that has its fields
pub join-field : (widths : List ℕ) (word : ℕ) → word < 2 ^ total widths → join widths (fields_from widths word 0 (length widths)) ≡ word
unfolding fields_from
join-field widths word h =
    ap (join widths) (ap (fields_from widths word 0) (sym (length_fields widths word)) ∙ numbered (fields widths word) 0 (λ k. fields_at widths word h k ∙ ap (field widths word) (sym (zero-add k))))
    ∙ join-fields widths word h
  where
    numbered : (values : List ℕ) (i : ℕ) → ((k : ℕ) → get_or values k 0 ≡ field widths word (i + k)) → fields_from widths word i (length values) ≡ values
    numbered [] i same = refl
    numbered (value ∷ values) i same =
        ap₂ (λ (a : ℕ) (b : List ℕ). a ∷ b) (ap (field widths word) (sym (add-zero i)) ∙ sym (same 0))
        (numbered values (suc i) (λ k. same (suc k) ∙ ap (field widths word) (let e : i + suc k ≡ suc i + k = omega arith in e)))
