-- The tests of a file in their order, and what a file's parts tell. Document 01, "The desk program". Assumes nothing.
use Rattle.std.proofs.Common.{◌≡◌, refl, ap, ◌∙◌, Bool, true, false, cond, List, ◌++◌, ℕ, ◌+◌, ◌-◌, ◌/◌, ◌%◌, ◌≤◌, ◌<◌, arith, eqb, leb, length, drop, eq-eqb, ne_eqb, le-leb, leb-true, None}
use borrow.Author.Tests.{lt-leb}
use Rattle.model.specs.Bytes.{word_of_bytes, words_from, words_of_bytes}
use Rattle.desk_model.specs.Desk.{FileParts, fit, file_parts, laid, laid_by, lay_call}

-- the tests of a file, in their order
module _ (bytes : List ℕ) where
  pub parts-empty : length bytes ≡ 0 → None ≡ file_parts bytes
  unfolding file_parts
  parts-empty e = simp (eq-eqb (length bytes) 0 e)

  module _ (some : length bytes ≡ 0 → ⊥) where
    pub parts-broken : (length bytes % 4 ≡ 0 → ⊥) → None ≡ file_parts bytes
    unfolding file_parts
    parts-broken e = simp (ne_eqb (length bytes) 0 some, ne_eqb (length bytes % 4) 0 e)

    module _ (whole : length bytes % 4 ≡ 0) (size : ℕ) (is : size ≡ word_of_bytes bytes 0) where
      pub parts-long-query : 272 < size → None ≡ file_parts bytes
      unfolding file_parts
      parts-long-query h = simp (ne_eqb (length bytes) 0 some, eq-eqb (length bytes % 4) 0 whole, lt-leb (word_of_bytes bytes 0) 272 (omega arith))

      pub parts-short : size ≤ 272 → length bytes / 4 < 1 + size → None ≡ file_parts bytes
      unfolding file_parts
      parts-short h l =
          simp (ne_eqb (length bytes) 0 some, eq-eqb (length bytes % 4) 0 whole, le-leb (word_of_bytes bytes 0) 272 (omega arith), lt-leb (1 + word_of_bytes bytes 0) (length bytes / 4) (omega arith))

      pub parts-long-image : size ≤ 272 → 1 + size ≤ length bytes / 4 → 1024 < length bytes / 4 - (1 + size) → None ≡ file_parts bytes
      unfolding file_parts
      parts-long-image h l g =
          simp (
            ne_eqb (length bytes) 0 some,
            eq-eqb (length bytes % 4) 0 whole,
            le-leb (word_of_bytes bytes 0) 272 (omega arith),
            le-leb (1 + word_of_bytes bytes 0) (length bytes / 4) (omega arith),
            lt-leb (length bytes / 4 - (1 + word_of_bytes bytes 0)) 1024 (omega arith),
          )

      pub parts-fit : size ≤ 272 → 1 + size ≤ length bytes / 4 → length bytes / 4 - (1 + size) ≤ 1024 → fit size (length bytes / 4) ≡ file_parts bytes
      unfolding file_parts
      parts-fit h l g =
          simp (
            ne_eqb (length bytes) 0 some,
            eq-eqb (length bytes % 4) 0 whole,
            le-leb (word_of_bytes bytes 0) 272 (omega arith),
            le-leb (1 + word_of_bytes bytes 0) (length bytes / 4) (omega arith),
            le-leb (length bytes / 4 - (1 + word_of_bytes bytes 0)) 1024 (omega arith),
          ) (ap (λ (n : ℕ). fit n (length bytes / 4)) is)

-- what the parts of a file tell of its words
pub record Within (bytes : List ℕ) (size count : ℕ) : Type 0 where
  pub query : 1 + size ≤ count
  pub few : count ≤ 1297
  pub all : count ≡ length bytes / 4

pub parts_within : (bytes : List ℕ) (size count : ℕ) → fit size count ≡ file_parts bytes → Within bytes size count
unfolding file_parts
parts_within bytes size count e = go (eqb (length bytes) 0) (eqb (length bytes % 4) 0) (leb q 272) refl (leb (1 + q) n) refl (leb (n - (1 + q)) 1024) refl e
  where
    q : ℕ
    q = word_of_bytes bytes 0

    n : ℕ
    n = length bytes / 4

    go : (a b c : Bool) → leb q 272 ≡ c → (d : Bool) → leb (1 + q) n ≡ d → (f : Bool) → leb (n - (1 + q)) 1024 ≡ f
        → fit size count ≡ cond a None (cond b (cond c (cond d (cond f (fit q n) None) None) None) None) → Within bytes size count
    go true b c qc d qd f qf z = let y : ◌≡◌ {A = ℕ} 0 1 = cc in absurd (omega arith)
    go false false c qc d qd f qf z = let y : ◌≡◌ {A = ℕ} 0 1 = cc in absurd (omega arith)
    go false true false qc d qd f qf z = let y : ◌≡◌ {A = ℕ} 0 1 = cc in absurd (omega arith)
    go false true true qc false qd f qf z = let y : ◌≡◌ {A = ℕ} 0 1 = cc in absurd (omega arith)
    go false true true qc true qd false qf z = let y : ◌≡◌ {A = ℕ} 0 1 = cc in absurd (omega arith)
    go false true true qc true qd true qf z =
        let both : ◌≡◌ {A = ℕ × ℕ} (size, count) (q, n) = cc in
        let s : size ≡ q = ap (λ (p : ℕ × ℕ). p.0) both in
        let c : count ≡ n = ap (λ (p : ℕ × ℕ). p.1) both in
        let h = leb-true q 272 qc in
        let l = leb-true (1 + q) n qd in
        let g = leb-true (n - (1 + q)) 1024 qf in
        record { query = omega (arith, s, c, l); few = omega (arith, s, c, h, l, g); all = c }

-- the call, by its tests
pub lay-no-room : (bytes words : List ℕ) → length words < 1297 → laid None words ≡ lay_call bytes words
unfolding lay_call
lay-no-room bytes words h = simp (lt-leb 1297 (length words) h)

pub lay-unfit : (bytes words : List ℕ) → 1297 ≤ length words → None ≡ file_parts bytes → laid None words ≡ lay_call bytes words
unfolding lay_call
lay-unfit bytes words h e = simp (le-leb 1297 (length words) h) (ap (λ (p : FileParts). laid_by p (words_of_bytes bytes) words) e)

pub lay-fit : (bytes words : List ℕ) (size count : ℕ) (after : List ℕ) → 1297 ≤ length words → fit size count ≡ file_parts bytes → after ≡ words_from bytes count 0 ++ drop count words
    → laid (fit size count) after ≡ lay_call bytes words
unfolding lay_call words_of_bytes
lay-fit bytes words size count after h e a =
    simp (le-leb 1297 (length words) h)
    (ap (λ (l : List ℕ). laid (fit size count) l) (a ∙ ap (λ (n : ℕ). words_from bytes n 0 ++ drop count words) (parts_within bytes size count e).all)
    ∙ ap (λ (p : FileParts). laid_by p (words_of_bytes bytes) words) e)
