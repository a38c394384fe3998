-- The words that a list of bytes spells, laid out one by one at the front of a list of words. Document 01, "Rule image". Assumes nothing.
use Rattle.std.proofs.Common.{◌≡◌, refl, sym, ap, ap₂, ◌∙◌, List, [], ◌∷◌, ◌++◌, ℕ, zero, suc, ◌+◌, ◌<◌, arith, add-zero, add-one, length, set, take, drop, take-append-drop, drop-set-lt, drop-drop}
use Rattle.std.proofs.Math.Seq.{take-suc-set}
use Rattle.model.specs.Bytes.{word_of_bytes, words_from}

words_from-snoc : (bytes : List ℕ) (count k : ℕ) → words_from bytes (suc count) k ≡ words_from bytes count k ++ (word_of_bytes bytes (k + count) ∷ [])
unfolding words_from
words_from-snoc bytes zero k = rw (add-zero k) refl
words_from-snoc bytes (suc count) k =
    let e : suc k + count ≡ k + suc count = omega arith in
    ap (λ (l : List ℕ). word_of_bytes bytes k ∷ l) (rw e at (words_from-snoc bytes count (suc k)))

-- storing word k behind the first k
pub words_from-store : (bytes words : List ℕ) (k word : ℕ) → k < length words → word ≡ word_of_bytes bytes k → take k words ≡ words_from bytes k 0
    → take (k + 1) (set words k word) ≡ words_from bytes (k + 1) 0
words_from-store bytes words k word h e t =
    rw (add-one k) (take-suc-set words k word h ∙ ap₂ (λ (l : List ℕ) (w : ℕ). l ++ (w ∷ [])) t (e ∙ ap (word_of_bytes bytes) (omega arith)) ∙ sym (words_from-snoc bytes k 0))

-- what is stored at a place leaves what stands behind it
pub drop-store : (words room : List ℕ) (k word : ℕ) → drop k words ≡ drop k room → drop (k + 1) (set words k word) ≡ drop (k + 1) room
drop-store words room k word e =
    drop-set-lt (k + 1) words k word (omega arith) ∙ sym (drop-drop 1 k words) ∙ ap (λ (l : List ℕ). drop 1 l) e ∙ drop-drop 1 k room

pub laid-words : (bytes words room : List ℕ) (k : ℕ) → take k words ≡ words_from bytes k 0 → drop k words ≡ drop k room → words ≡ words_from bytes k 0 ++ drop k room
laid-words bytes words room k t d = sym (take-append-drop k words) ∙ ap₂ (λ (a b : List ℕ). a ++ b) t d
