-- One turn of each loop of the walk, and its end. Document 01, "The check walks". Assumes nothing.
use Rattle.std.proofs.Common.{◌≡◌, refl, sym, ap, ◌∙◌, List, ℕ, zero, suc, ◌+◌, ◌-◌, ◌≤◌, ◌<◌, arith, Ok}
use Rattle.model.specs.Answers.{Walk}
use Rattle.model.specs.Image.{onward, argument, arguments, goal, goals, clause, clauses, predicate, predicates}

-- a walk that takes one thing after another, `count` of them, of which `i` are taken: arguments, goals and clauses each do
module _ (walk : ℕ → ℕ → ℕ → Walk) (one : ℕ → ℕ → Walk) (none : (at seen : ℕ) → walk 0 at seen ≡ Ok (at, seen))
    (more : (left at seen : ℕ) → walk (suc left) at seen ≡ onward (walk left) (one at seen)) (count i at seen : ℕ) where
  pub repeat-end : count ≤ i → Ok (at, seen) ≡ walk (count - i) at seen
  repeat-end h = let z : count - i ≡ 0 = omega arith in rw z (sym (none at seen))

  pub repeat-turn : (found : Walk) → i < count → found ≡ one at seen → onward (walk (count - (i + 1))) found ≡ walk (count - i) at seen
  repeat-turn found h e = let s : count - i ≡ suc (count - (i + 1)) = omega arith in rw s (ap (onward (walk (count - (i + 1)))) e ∙ sym (more (count - (i + 1)) at seen))

module _ (words : List ℕ) (declared count i at seen : ℕ) where
  pub arguments-end : count ≤ i → Ok (at, seen) ≡ arguments (count - i) words declared at seen
  unfolding arguments
  arguments-end = repeat-end (λ n. arguments n words declared) (argument words declared) (λ at seen. refl) (λ n at seen. refl) count i at seen

  pub arguments-turn : (found : Walk) → i < count → found ≡ argument words declared at seen
      → onward (arguments (count - (i + 1)) words declared) found ≡ arguments (count - i) words declared at seen
  unfolding arguments
  arguments-turn = repeat-turn (λ n. arguments n words declared) (argument words declared) (λ at seen. refl) (λ n at seen. refl) count i at seen

module _ (image words : List ℕ) (declared count i at seen : ℕ) where
  pub goals-end : count ≤ i → Ok (at, seen) ≡ goals (count - i) image words declared at seen
  unfolding goals
  goals-end = repeat-end (λ n. goals n image words declared) (goal image words declared) (λ at seen. refl) (λ n at seen. refl) count i at seen

  pub goals-turn : (found : Walk) → i < count → found ≡ goal image words declared at seen
      → onward (goals (count - (i + 1)) image words declared) found ≡ goals (count - i) image words declared at seen
  unfolding goals
  goals-turn = repeat-turn (λ n. goals n image words declared) (goal image words declared) (λ at seen. refl) (λ n at seen. refl) count i at seen

module _ (image : List ℕ) (head_arity count i at seen : ℕ) where
  pub clauses-end : count ≤ i → Ok (at, seen) ≡ clauses (count - i) image head_arity at seen
  unfolding clauses
  clauses-end = repeat-end (λ n. clauses n image head_arity) (λ at seen. clause image image 0 head_arity at) (λ at seen. refl) (λ n at seen. refl) count i at seen

  pub clauses-turn : (found : Walk) → i < count → found ≡ clause image image 0 head_arity at
      → onward (clauses (count - (i + 1)) image head_arity) found ≡ clauses (count - i) image head_arity at seen
  unfolding clauses
  clauses-turn = repeat-turn (λ n. clauses n image head_arity) (λ at seen. clause image image 0 head_arity at) (λ at seen. refl) (λ n at seen. refl) count i at seen

-- predicates are numbered as they are walked
module _ (image : List ℕ) (count number at seen : ℕ) where
  pub predicates-end : count ≤ number → Ok (at, seen) ≡ predicates (count - number) image number at seen
  unfolding predicates
  predicates-end h = let z : count - number ≡ 0 = omega arith in rw z refl

  pub predicates-turn : (found : Walk) → number < count → found ≡ predicate image number at seen
      → onward (predicates (count - (number + 1)) image (number + 1)) found ≡ predicates (count - number) image number at seen
  unfolding predicates
  predicates-turn found h e =
      let s : count - number ≡ suc (count - (number + 1)) = omega arith in
      let t : number + 1 ≡ suc number = omega arith in
      rw (s, t) (ap (onward (predicates (count - suc number) image (suc number))) e)
