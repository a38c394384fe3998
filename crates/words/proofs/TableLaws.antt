-- The code's table against the definition's: each row is the kind's widths, six at most, 32 bits in all. Assumes nothing.
use Rattle.std.proofs.Common.{◌≡◌, refl, sym, subst, ◌∙◌, ⊎_elim, Bool, true, false, ◌&&◌, List, [], ◌∷◌, ℕ, zero, suc, ◌+◌, ◌*◌, ◌/◌, ◌%◌, ◌^◌, ◌≤◌, ◌<◌, arith, eq-or-lt_of_le, le_of_suc-le-suc, not-suc-le-zero, le_trans, one-mul, mod-eq_of_lt, mod-lt, lt_of_lt_of_le, zero-mul, pow_pos, pow_mono, shl_lt, T, eqb, eqb→eq, lit<, lit≤, length, get_or}
use native.Mathlib.Nat.{mod-le, mod-one}
use lib.Pow.{pow-lt, shr_le}
use lib.ListN.{get_or-eq_default}
use Rattle.model.specs.declared.Kind.{Kind}
use Rattle.model.specs.declared.Kind.TheVariants.{Header, Predicate, Clause, Var, Con, Goal, Node0, Node1, Node2, Node3, Value}
use Rattle.model.specs.Fields.{widths_of, total, below, field}
use Rattle.words.specs.Table.{row_of}
use Rattle.words.proofs.FieldLaws.{total-parts}

-- the code's array, as it stands there
abbrev pub table : List (List ℕ)
table =
    (4 ∷ 10 ∷ 1 ∷ 17 ∷ 0 ∷ 0 ∷ [])
    ∷ (4 ∷ 1 ∷ 10 ∷ 17 ∷ 0 ∷ 0 ∷ [])
    ∷ (4 ∷ 6 ∷ 6 ∷ 16 ∷ 0 ∷ 0 ∷ [])
    ∷ (4 ∷ 22 ∷ 6 ∷ 0 ∷ 0 ∷ 0 ∷ [])
    ∷ (4 ∷ 28 ∷ 0 ∷ 0 ∷ 0 ∷ 0 ∷ [])
    ∷ (4 ∷ 10 ∷ 18 ∷ 0 ∷ 0 ∷ 0 ∷ [])
    ∷ (1 ∷ 6 ∷ 6 ∷ 4 ∷ 6 ∷ 9 ∷ [])
    ∷ (12 ∷ 3 ∷ 17 ∷ 0 ∷ 0 ∷ 0 ∷ [])
    ∷ (1 ∷ 6 ∷ 4 ∷ 10 ∷ 11 ∷ 0 ∷ [])
    ∷ (32 ∷ 0 ∷ 0 ∷ 0 ∷ 0 ∷ 0 ∷ [])
    ∷ (3 ∷ 29 ∷ 0 ∷ 0 ∷ 0 ∷ 0 ∷ [])
    ∷ []

-- a test that holds at every number below a bound holds at each
abbrev pub upto : ℕ → (ℕ → Bool) → Bool
upto zero test = true
upto (suc n) test = test n && upto n test

pub upto-at : (n : ℕ) (test : ℕ → Bool) → T (upto n test) → (k : ℕ) → k < n → T (test k)
upto-at zero test h k l = absurd (not-suc-le-zero l)
upto-at (suc n) test h k l = go (test n) refl (upto-at n test) h
  where
    go : (b : Bool) → test n ≡ b → (T (upto n test) → (j : ℕ) → j < n → T (test j)) → T (b && upto n test) → T (test k)
    go true q rest u = ⊎_elim (λ e. subst (λ (j : ℕ). T (test j)) (sym e) (subst T (sym q) tt)) (λ m. rest u k m) (eq-or-lt_of_le (le_of_suc-le-suc l))
    go false q rest u = absurd u

row_test : Kind → ℕ → Bool
row_test kind i = eqb (get_or (get_or table (row_of kind) []) i 0) (get_or (widths_of kind) i 0)

row_test-all : (kind : Kind) → T (upto 6 (row_test kind))
unfolding row_test widths_of
row_test-all Header = tt
row_test-all Predicate = tt
row_test-all Clause = tt
row_test-all Var = tt
row_test-all Con = tt
row_test-all Goal = tt
row_test-all Node0 = tt
row_test-all Node1 = tt
row_test-all Node2 = tt
row_test-all Node3 = tt
row_test-all Value = tt

pub table-row : (kind : Kind) (i : ℕ) → i < 6 → get_or (get_or table (row_of kind) []) i 0 ≡ get_or (widths_of kind) i 0
unfolding row_test
table-row kind i h = eqb→eq (get_or (get_or table (row_of kind) []) i 0) (get_or (widths_of kind) i 0) (upto-at 6 (row_test kind) (row_test-all kind) i h)

pub record Row (kind : Kind) : Type 0 where
  pub row : row_of kind < 11
  pub short : length (widths_of kind) ≤ 6
  pub whole : total (widths_of kind) ≡ 32
  pub last : below (widths_of kind) 5 ≡ 0

pub row-of : (kind : Kind) → Row kind
unfolding widths_of total below
row-of Header = record { row = lit< tt; short = lit≤ tt; whole = refl; last = refl }
row-of Predicate = record { row = lit< tt; short = lit≤ tt; whole = refl; last = refl }
row-of Clause = record { row = lit< tt; short = lit≤ tt; whole = refl; last = refl }
row-of Var = record { row = lit< tt; short = lit≤ tt; whole = refl; last = refl }
row-of Con = record { row = lit< tt; short = lit≤ tt; whole = refl; last = refl }
row-of Goal = record { row = lit< tt; short = lit≤ tt; whole = refl; last = refl }
row-of Node0 = record { row = lit< tt; short = lit≤ tt; whole = refl; last = refl }
row-of Node1 = record { row = lit< tt; short = lit≤ tt; whole = refl; last = refl }
row-of Node2 = record { row = lit< tt; short = lit≤ tt; whole = refl; last = refl }
row-of Node3 = record { row = lit< tt; short = lit≤ tt; whole = refl; last = refl }
row-of Value = record { row = lit< tt; short = lit≤ tt; whole = refl; last = refl }

-- there is no field past the sixth
pub width-past : (kind : Kind) (i : ℕ) → 6 ≤ i → get_or (widths_of kind) i 0 ≡ 0
width-past kind i h = let s = (row-of kind).short in get_or-eq_default (widths_of kind) 0 (omega arith)

-- a field and the bits below it are within the word
pub within : (kind : Kind) (i : ℕ) → get_or (widths_of kind) i 0 + below (widths_of kind) i ≤ 32
within kind i = omega (arith, (total-parts (widths_of kind) i).1, (row-of kind).whole)

-- a power of two up to the word's is within 64 bits
pub shl_one : (bits : ℕ) → bits ≤ 32 → 1 * 2 ^ bits % 18446744073709551616 ≡ 2 ^ bits
shl_one bits h = mod-eq_of_lt (rw one-mul (pow-lt {i = bits} {j = 64} (omega arith))) ∙ one-mul (2 ^ bits)

pub field_past : (kind : Kind) (word i : ℕ) → 6 ≤ i → 0 ≡ field (widths_of kind) word i
unfolding field
field_past kind word i h = rw (width-past kind i h) (sym (mod-one (word / 2 ^ below (widths_of kind) i)))

pub field-le : (widths : List ℕ) (word i : ℕ) → field widths word i ≤ word
unfolding field
field-le widths word i = le_trans (mod-le (word / 2 ^ below widths i) (2 ^ get_or widths i 0)) (shr_le word (below widths i))

-- a shift and a remainder read the field
pub shift-reads : (kind : Kind) (word i shift bits : ℕ) → shift ≡ below (widths_of kind) i → bits ≡ get_or (widths_of kind) i 0
    → word / 2 ^ shift % (1 * 2 ^ bits % 18446744073709551616) ≡ field (widths_of kind) word i
unfolding field
shift-reads kind word i shift bits s b = rw (shl_one bits (omega (arith, within kind i)), s, b) refl

-- what a field holds, cut and shifted into its place, is within the word
pub placed-lt : (kind : Kind) (value i : ℕ) → value % 2 ^ get_or (widths_of kind) i 0 * 2 ^ below (widths_of kind) i < 2 ^ 32
placed-lt kind value i =
    lt_of_lt_of_le (shl_lt (get_or (widths_of kind) i 0) (below (widths_of kind) i) (mod-lt value (pow_pos (get_or (widths_of kind) i 0)))) (pow_mono (within kind i))

-- a remainder and a shift place it
pub shift-places : (kind : Kind) (value i shift bits : ℕ) → shift ≡ below (widths_of kind) i → bits ≡ get_or (widths_of kind) i 0
    → value % (1 * 2 ^ bits % 18446744073709551616) * 2 ^ shift % 18446744073709551616 ≡ value % 2 ^ get_or (widths_of kind) i 0 * 2 ^ below (widths_of kind) i
shift-places kind value i shift bits s b =
    rw (shl_one bits (omega (arith, within kind i)), s, b) (mod-eq_of_lt (lt_of_lt_of_le (placed-lt kind value i) (pow_mono {i = 32} {j = 64} (omega arith))))

pub placed_past : (kind : Kind) (value i : ℕ) → 6 ≤ i → 0 ≡ value % 2 ^ get_or (widths_of kind) i 0 * 2 ^ below (widths_of kind) i
placed_past kind value i h = rw (width-past kind i h, mod-one value) (sym (zero-mul (2 ^ below (widths_of kind) i)))
