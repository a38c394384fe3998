-- The child's own cells: laid, stored into and cleared again, the cells are as they were. Document 01, rule 7, "Failure: Tried; only that count has changed".
-- What value words tell, and what a store leaves to be read. Assumes nothing.
use Rattle.std.specs.Prelude.{◌≡◌, refl, ◌⊎◌, List, [], ◌∷◌, ℕ, zero, suc, ◌+◌, ◌%◌, ◌^◌, ◌≤◌, ◌<◌, length, get_or, set}
use Rattle.std.proofs.Common.{sym, ap, ◌∙◌, inl, inr, ⊎_elim, mod-lt, mod-eq_of_lt, eq-or-lt_of_le, add-zero, arith, length-set, get_or-set_same, get_or-set_other, set-set, pow_pos}
use Rattle.std.proofs.lemmas.List.{set-get_or, set_comm}
use Rattle.model.specs.declared.Kind.TheVariants.{Value}
use Rattle.model.specs.Fields.{widths_of}
use Rattle.model.specs.Memory.{tag, value, cut_to, word_of, vno_word, ref_word, cleared}
use Rattle.model.specs.Steps.{laid}
use Rattle.words.proofs.FieldLaws.{field-join}

pub tag-ref_word : (n : ℕ) → tag (ref_word n) ≡ 1
unfolding widths_of word_of cut_to
tag-ref_word n = field-join (widths_of Value) (1 ∷ n % 2 ^ 29 ∷ []) (omega arith, (mod-lt n (pow_pos 29), tt)) 0

-- a value has 29 bits
pub value-ref_word : (n : ℕ) → n < 536870912 → value (ref_word n) ≡ n
unfolding widths_of word_of cut_to
value-ref_word n h = field-join (widths_of Value) (1 ∷ n % 2 ^ 29 ∷ []) (omega arith, (mod-lt n (pow_pos 29), tt)) 1 ∙ mod-eq_of_lt h

-- after a store each word is as it was, or is what was stored
pub get_or-set-either : (words : List ℕ) (i word k : ℕ) → (get_or (set words i word) k 0 ≡ get_or words k 0) ⊎ (get_or (set words i word) k 0 ≡ word)
get_or-set-either [] i word k = inl refl
get_or-set-either (x ∷ words) zero word zero = inr refl
get_or-set-either (x ∷ words) zero word (suc k) = inl refl
get_or-set-either (x ∷ words) (suc i) word zero = inl refl
get_or-set-either (x ∷ words) (suc i) word (suc k) = get_or-set-either words i word k

-- what is stored into words that are cleared does not matter
pub cleared-own : (count at : ℕ) (words : List ℕ) (i word : ℕ) → at ≤ i → i < at + count → cleared count at (set words i word) ≡ cleared count at words
unfolding cleared
cleared-own zero at words i word low high = absurd (omega arith)
cleared-own (suc count) at words i word low high =
    ⊎_elim
    (λ (e : at ≡ i). ap (cleared count (at + 1)) (ap (λ (n : ℕ). set (set words n word) at 0) (sym e) ∙ set-set words at word 0))
    (λ (h : at < i). ap (cleared count (at + 1)) (set_comm words i at word 0 (λ e. omega arith)) ∙ cleared-own count (at + 1) (set words at 0) i word (omega arith) (omega arith))
    (eq-or-lt_of_le low)

-- words that are 0 are the same cleared
pub cleared-zero : (count at : ℕ) (words : List ℕ) → ((k : ℕ) → k < count → get_or words (at + k) 0 ≡ 0) → cleared count at words ≡ words
unfolding cleared
cleared-zero zero at words zeros = refl
cleared-zero (suc count) at words zeros =
    let same : set words at 0 ≡ words =
    ap (set words at) (sym (zeros 0 (omega arith)) ∙ ap (λ (n : ℕ). get_or words n 0) (add-zero at)) ∙ set-get_or words at 0 in
    ap (cleared count (at + 1)) same
    ∙ cleared-zero count (at + 1) words (λ k h. ap (λ (n : ℕ). get_or words n 0) (let e : at + 1 + k ≡ at + suc k = omega arith in e) ∙ zeros (suc k) (omega arith))

-- cells that are laid among those that are cleared
cleared-laid-from : (own first : ℕ) (count at number : ℕ) (cells : List ℕ) → first ≤ at → at + count ≤ first + own
    → cleared own first (laid count at number cells) ≡ cleared own first cells
unfolding laid
cleared-laid-from own first zero at number cells low high = refl
cleared-laid-from own first (suc count) at number cells low high =
    cleared-laid-from own first count (at + 1) (number + 1) (set cells at (vno_word number)) (omega arith) (omega arith)
    ∙ cleared-own own first cells at (vno_word number) low (omega arith)

pub cleared-laid : (own first number : ℕ) (cells : List ℕ) → ((k : ℕ) → k < own → get_or cells (first + k) 0 ≡ 0) → cleared own first (laid own first number cells) ≡ cells
cleared-laid own first number cells zeros = cleared-laid-from own first own first number cells (omega arith) (omega arith) ∙ cleared-zero own first cells zeros

-- a cell that is not among those laid
pub laid-other : (count at number : ℕ) (cells : List ℕ) (k : ℕ) → (k < at) ⊎ (at + count ≤ k) → get_or (laid count at number cells) k 0 ≡ get_or cells k 0
unfolding laid
laid-other zero at number cells k aside = refl
laid-other (suc count) at number cells k aside =
    laid-other count (at + 1) (number + 1) (set cells at (vno_word number)) k (⊎_elim (λ h. inl (omega arith)) (λ h. inr (omega arith)) aside)
    ∙ get_or-set_other cells at k (vno_word number) 0 (λ e. ⊎_elim (λ h. omega arith) (λ h. omega arith) aside)

-- "a node made by a clause numbers that clause's variables from its base on"
pub laid-own : (count at number : ℕ) (cells : List ℕ) (k : ℕ) → at + count ≤ length cells → k < count → get_or (laid count at number cells) (at + k) 0 ≡ vno_word (number + k)
unfolding laid
laid-own zero at number cells k long h = absurd (omega arith)
laid-own (suc count) at number cells zero long h =
    ap (λ (n : ℕ). get_or (laid count (at + 1) (number + 1) (set cells at (vno_word number))) n 0) (add-zero at)
    ∙ laid-other count (at + 1) (number + 1) (set cells at (vno_word number)) at (inl (omega arith))
    ∙ get_or-set_same cells at (vno_word number) 0 (omega arith) ∙ ap (λ (n : ℕ). vno_word n) (sym (add-zero number))
laid-own (suc count) at number cells (suc k) long h =
    ap (λ (n : ℕ). get_or (laid count (at + 1) (number + 1) (set cells at (vno_word number))) n 0) (let e : at + suc k ≡ at + 1 + k = omega arith in e)
    ∙ laid-own count (at + 1) (number + 1) (set cells at (vno_word number)) k (omega (arith, length-set cells at (vno_word number))) (omega arith)
    ∙ ap (λ (n : ℕ). vno_word n) (let e : number + 1 + k ≡ number + suc k = omega arith in e)
