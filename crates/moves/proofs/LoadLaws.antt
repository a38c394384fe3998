-- Words stored in a row, a list that is cleared whole, and a fresh memory. Assumes nothing.
use Rattle.std.proofs.Common.{◌≡◌, refl, ap, ap₂, ◌∙◌, List, [], ◌∷◌, ◌++◌, ℕ, zero, suc, ◌+◌, ◌≤◌, arith, length, get_or, set, drop, replicate}
use Rattle.model.specs.declared.Kind.TheVariants.{Node0, Node2}
use Rattle.model.specs.Fields.{variables}
use Rattle.model.specs.Memory.{Memory, memory, word_of, cleared}
use Rattle.model.specs.Steps.{laid}
use Rattle.model.specs.Moves.{loaded}

-- words stored one after another, from a place on
unfoldable pub written : ℕ → List ℕ → List ℕ → List ℕ
written at [] room = room
written at (word ∷ words) room = written (at + 1) words (set room at word)

pub written-later : (words : List ℕ) (at first : ℕ) (room : List ℕ) → written (suc at) words (first ∷ room) ≡ first ∷ written at words room
unfolding written
written-later [] at first room = refl
written-later (word ∷ words) at first room =
    let s : suc at + 1 ≡ suc (at + 1) = omega arith in
    ap (λ (n : ℕ). written n words (first ∷ set room at word)) s ∙ written-later words (at + 1) first (set room at word)

pub written-front : (words room : List ℕ) → length words ≤ length room → written 0 words room ≡ words ++ drop (length words) room
unfolding written
written-front [] room h = refl
written-front (word ∷ words) [] h = absurd (omega arith)
written-front (word ∷ words) (first ∷ room) h = written-later words 0 word room ∙ ap (λ (l : List ℕ). word ∷ l) (written-front words room (omega arith))

-- a list of so many words that is filled with 0, by what `fill` promises
pub filled : (count : ℕ) (words after : List ℕ) → length words ≡ count → (((word : ℕ) → word ≡ 0 → word ≡ 0) → after ≡ replicate (length words) 0) → after ≡ replicate count 0
filled count words after h e = e (λ word same. same) ∙ ap (λ (n : ℕ). replicate n 0) h

-- memories are the same where their five lists are
pub same_memory : {nodes cells trail arrays workers nodes' cells' trail' arrays' workers' : List ℕ}
    → nodes ≡ nodes' → cells ≡ cells' → trail ≡ trail' → arrays ≡ arrays' → workers ≡ workers'
    → memory nodes cells trail arrays workers ≡ memory nodes' cells' trail' arrays' workers'
same_memory {nodes} {cells} {trail} {arrays} {workers} {nodes'} {cells'} {trail'} {arrays'} {workers'} en ec et ea ew =
    ap₂ (λ (n c : List ℕ). memory n c trail arrays workers) en ec
    ∙ ap₂ (λ (t a : List ℕ). memory nodes' cells' t a workers) et ea ∙ ap (memory nodes' cells' trail' arrays') ew

-- the root's words in an empty memory
pub loaded-of : (query nodes cells trail arrays workers : List ℕ) (own first second : ℕ) (nodes' nodes'' cells' : List ℕ)
    → memory nodes cells trail arrays workers ≡ memory (replicate 256 0) (replicate 2048 0) (replicate 2048 0) (replicate 8192 0) (replicate 4 0)
    → own ≡ variables (get_or query 0 0) → first ≡ word_of Node0 (1 ∷ 0 ∷ 0 ∷ 0 ∷ own ∷ 0 ∷ []) → second ≡ word_of Node2 (1 ∷ 0 ∷ 0 ∷ 0 ∷ 0 ∷ [])
    → nodes' ≡ set nodes 0 first → nodes'' ≡ set nodes' 2 second → cells' ≡ laid own 0 0 cells
    → memory nodes'' cells' trail arrays workers ≡ loaded query
unfolding loaded
loaded-of query nodes cells trail arrays workers own first second nodes' nodes'' cells' e eo ef es en em ec =
    ap₂ (λ (n c : List ℕ). memory n c trail arrays workers) em ec
    ∙ ap₂ (λ (n : List ℕ) (s : ℕ). memory (set n 2 s) (laid own 0 0 cells) trail arrays workers) (en ∙ ap (set nodes 0) ef) es
    ∙ ap (λ (m : Memory). rooted m own) e ∙ ap (rooted (memory (replicate 256 0) (replicate 2048 0) (replicate 2048 0) (replicate 8192 0) (replicate 4 0))) eo
  where
    rooted : Memory → ℕ → Memory
    rooted m n =
        memory (set (set m.nodes 0 (word_of Node0 (1 ∷ 0 ∷ 0 ∷ 0 ∷ n ∷ 0 ∷ []))) 2 (word_of Node2 (1 ∷ 0 ∷ 0 ∷ 0 ∷ 0 ∷ [])))
        (laid n 0 0 m.cells) m.trail m.arrays m.workers

-- clearing stores so many zeros
pub cleared-written : (count at : ℕ) (words : List ℕ) → cleared count at words ≡ written at (replicate count 0) words
unfolding cleared written
cleared-written zero at words = refl
cleared-written (suc count) at words = cleared-written count (at + 1) (set words at 0)
