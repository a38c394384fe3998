-- One turn of a head's unifying, and how many entries a pair makes: at most one. Assumes nothing.
use Rattle.std.proofs.Common.{◌≡◌, refl, ap, ap₂, ◌∙◌, Bool, true, false, cond, List, ℕ, zero, suc, ◌+◌, ◌-◌, ◌≤◌, ◌<◌, ltb, get_or, set, arith, Ok, Err}
use Rattle.words.proofs.Ranges.{left-after, none-left}
use Rattle.model.specs.declared.Pairing.{Pairing}
use Rattle.model.specs.declared.Pairing.TheVariants.{Nothing, Clash, Binds}
use Rattle.model.specs.Memory.{number_at, value_at}
use Rattle.model.specs.Terms.{Unified, Store, store, bind, pairing, argument_of, unify_pair, unify_words, onwards, unify_head}

abbrev pub counted : Unified → ℕ
counted (Ok count) = count
counted (Err clash) = clash.0

unify_pair-count : (child child_base : ℕ) (array cells trail : List ℕ) (count : ℕ) (pair : Pairing)
    → counted (unify_pair child child_base array cells trail count pair).unified ≤ count + 1
unfolding unify_pair bind
unify_pair-count child child_base array cells trail count Nothing = omega arith
unify_pair-count child child_base array cells trail count Clash = omega arith
unify_pair-count child child_base array cells trail count (Binds number address word) = go (ltb number.0 child_base)
  where
    go : (conditional? : Bool)
        → counted (cond conditional?
        (store (set array number.0 word) cells (set (set trail (number_at child count) number.0) (value_at child count) word) (Ok (count + 1)))
        (store array (set cells address.0 word) trail (Ok count))).unified ≤ count + 1
    go true = omega arith
    go false = omega arith

module _ (image words : List ℕ) (child child_base slot head goal : ℕ) (array cells trail : List ℕ) (count : ℕ) where
  pub unify_head-end : (i n : ℕ) → n ≤ i → store array cells trail (Ok count) ≡ unify_head (n - i) image words child child_base slot head goal array cells trail count
  unfolding unify_head
  unify_head-end i n h = rw (none-left i n h) refl

  module _ (ours theirs : ℕ) (array_next cells_next trail_next : List ℕ) (found : Unified)
      (step : store array_next cells_next trail_next found ≡ unify_words child child_base slot ours theirs array cells trail count) where
    pub unify_words-count : counted found ≤ count + 1
    unfolding unify_words
    unify_words-count =
        let e = ap (λ (s : Store). counted s.unified) step in
        omega (arith, e, unify_pair-count child child_base array cells trail count (pairing (argument_of array cells child ours) (argument_of array cells slot theirs)))

    pub unify_head-turn : (i n : ℕ) → i < n → ours ≡ get_or image head 0 → theirs ≡ get_or words goal 0
        → onwards (unify_head (n - (i + 1)) image words child child_base slot (head + 1) (goal + 1)) array_next cells_next trail_next found
        ≡ unify_head (n - i) image words child child_base slot head goal array cells trail count
    unfolding unify_head
    unify_head-turn i n h e f =
        rw (left-after i n h)
        (ap (λ (x : Store). onwards (unify_head (n - (i + 1)) image words child child_base slot (head + 1) (goal + 1)) x.array x.cells x.trail x.unified)
        (step ∙ ap₂ (λ (o t : ℕ). unify_words child child_base slot o t array cells trail count) e f))

-- a head makes at most one entry an argument
pub unify_head-count : (arity : ℕ) (image words : List ℕ) (child child_base slot head goal : ℕ) (array cells trail : List ℕ) (count : ℕ)
    → counted (unify_head arity image words child child_base slot head goal array cells trail count).unified ≤ count + arity
unfolding unify_head
unify_head-count zero image words child child_base slot head goal array cells trail count = omega arith
unify_head-count (suc arity) image words child child_base slot head goal array cells trail count =
    let s = unify_words child child_base slot (get_or image head 0) (get_or words goal 0) array cells trail count in
    go s.array s.cells s.trail s.unified
    (unify_words-count image words child child_base slot head goal array cells trail count (get_or image head 0) (get_or words goal 0) s.array s.cells s.trail s.unified refl)
    (unify_head-count arity image words child child_base slot (head + 1) (goal + 1) s.array s.cells s.trail)
  where
    go : (a c t : List ℕ) (u : Unified) → counted u ≤ count + 1
        → ((n : ℕ) → counted (unify_head arity image words child child_base slot (head + 1) (goal + 1) a c t n).unified ≤ n + arity)
        → counted (onwards (unify_head arity image words child child_base slot (head + 1) (goal + 1)) a c t u).unified ≤ count + suc arity
    go a c t (Ok n) h rest = omega (arith, rest n)
    go a c t (Err clash) h rest = omega arith
