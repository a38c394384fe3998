-- A number's digits, one more at a time and how many they are; and bytes stored one after another. Assumes nothing.
use Rattle.std.proofs.Common.{◌≡◌, refl, sym, ap, ap₂, ◌∙◌, Bool, true, false, List, [], ◌∷◌, ◌++◌, ℕ, zero, suc, ◌+◌, ◌/◌, ◌%◌, ◌^◌, ◌≤◌, ◌<◌, add-zero, pow-suc, arith, ltb, length, set, drop, length-append, lt-ltb, le-ltb, ltb-true, ltb-false}
use Rattle.desk_model.specs.Lines.{digits, decimal, written}

-- as many digits as there are, however many are allowed
digits_same : (a b n : ℕ) → n ≤ a → n ≤ b → digits a n ≡ digits b n
unfolding digits
digits_same zero zero n h l = refl
digits_same zero (suc b) n h l = rw (lt-ltb n 10 (omega arith), digits) refl
digits_same (suc a) zero n h l = rw (lt-ltb n 10 (omega arith), digits) refl
digits_same (suc a) (suc b) n h l = go (ltb n 10) refl (λ m. digits_same a b (n / 10) (omega arith) (omega arith))
  where
    go : (small : Bool) → ltb n 10 ≡ small → (10 ≤ n → digits a (n / 10) ≡ digits b (n / 10)) → digits (suc a) n ≡ digits (suc b) n
    go true q less = rw (q, digits) refl
    go false q less = rw (q, digits) (ap (λ (l : List ℕ). l ++ ((48 + n % 10) ∷ [])) (less (ltb-false n 10 q)))

pub decimal-small : (n : ℕ) → n < 10 → decimal n ≡ (48 + n) ∷ []
unfolding decimal digits
decimal-small zero h = refl
decimal-small (suc n) h = rw (lt-ltb (suc n) 10 h, digits) refl

pub decimal-more : (n : ℕ) → 10 ≤ n → decimal n ≡ decimal (n / 10) ++ ((48 + n % 10) ∷ [])
unfolding decimal digits
decimal-more zero h = absurd (omega arith)
decimal-more (suc n) h =
    rw (le-ltb (suc n) 10 h, digits) (ap (λ (l : List ℕ). l ++ ((48 + suc n % 10) ∷ [])) (digits_same n (suc n / 10) (suc n / 10) (omega arith) (omega arith)))

-- below a power of ten
pub decimal-short : (k n : ℕ) → n < 10 ^ suc k → length (decimal n) ≤ suc k
decimal-short zero n h = rw (decimal-small n h) (omega arith)
decimal-short (suc k) n h = go (ltb n 10) refl (decimal-short k (n / 10) (omega (arith, pow-suc 10 (suc k))))
  where
    go : (small : Bool) → ltb n 10 ≡ small → length (decimal (n / 10)) ≤ suc k → length (decimal n) ≤ suc (suc k)
    go true q less = rw (decimal-small n (ltb-true n 10 q)) (omega arith)
    go false q less =
        rw (decimal-more n (ltb-false n 10 q), length-append (decimal (n / 10)) ((48 + n % 10) ∷ [])) (omega (arith, less))

pub decimal-long : (n : ℕ) → n < 18446744073709551616 → length (decimal n) ≤ 20
decimal-long n h = decimal-short 19 n (omega arith)

-- "what is written, then more" is all written at once
pub written-append : (first second : List ℕ) (at : ℕ) (room : List ℕ) → written at (first ++ second) room ≡ written (at + length first) second (written at first room)
unfolding written
written-append [] second at room = ap (λ (n : ℕ). written n second room) (sym (add-zero at))
written-append (byte ∷ first) second at room =
    let e : at + 1 + length first ≡ at + suc (length first) = omega arith in
    written-append first second (at + 1) (set room at byte) ∙ ap (λ (n : ℕ). written n second (written (at + 1) first (set room at byte))) e

written-later : (bytes : List ℕ) (at first : ℕ) (room : List ℕ) → written (suc at) bytes (first ∷ room) ≡ first ∷ written at bytes room
unfolding written
written-later [] at first room = refl
written-later (byte ∷ bytes) at first room =
    let s : suc at + 1 ≡ suc (at + 1) = omega arith in
    ap (λ (n : ℕ). written n bytes (first ∷ set room at byte)) s ∙ written-later bytes (at + 1) first (set room at byte)

pub written-front : (bytes room : List ℕ) → length bytes ≤ length room → written 0 bytes room ≡ bytes ++ drop (length bytes) room
unfolding written
written-front [] room h = refl
written-front (byte ∷ bytes) [] h = absurd (omega arith)
written-front (byte ∷ bytes) (first ∷ room) h = written-later bytes 0 byte room ∙ ap (λ (l : List ℕ). byte ∷ l) (written-front bytes room (omega arith))

-- where the next byte stands and what the room holds, after bytes stored from a place on
abbrev pub Stored : ℕ → List ℕ → List ℕ → ℕ → List ℕ → Type 0
Stored at bytes room end after = (after ≡ written at bytes room) × (end ≡ at + length bytes)

-- more bytes behind those
pub stored-then : (at : ℕ) (first second : List ℕ) (room : List ℕ) (middle : ℕ) (between : List ℕ) (end : ℕ) (after : List ℕ)
    → Stored at first room middle between → Stored middle second between end after → Stored at (first ++ second) room end after
stored-then at first second room middle between end after a b = (
  b.0 ∙ ap₂ (λ (n : ℕ) (l : List ℕ). written n second l) a.1 a.0 ∙ sym (written-append first second at room),
  omega (arith, a.1, b.1, length-append first second),
)

pub stored_one : (at byte : ℕ) (room after : List ℕ) → after ≡ set room at byte → Stored at (byte ∷ []) room (at + 1) after
unfolding written
stored_one at byte room after e = (e, refl)

pub decimal_digit : (n at : ℕ) (room after : List ℕ) → n < 10 → after ≡ set room at (48 + n) → Stored at (decimal n) room (at + 1) after
decimal_digit n at room after h e = rw (decimal-small n h) (stored_one at (48 + n) room after e)

pub decimal-last : (n at : ℕ) (room : List ℕ) (middle : ℕ) (between after : List ℕ) → 10 ≤ n → Stored at (decimal (n / 10)) room middle between
    → after ≡ set between middle (48 + n % 10) → Stored at (decimal n) room (middle + 1) after
decimal-last n at room middle between after h a e =
    rw (decimal-more n h) (stored-then at (decimal (n / 10)) ((48 + n % 10) ∷ []) room middle between (middle + 1) after a (stored_one middle (48 + n % 10) between after e))
