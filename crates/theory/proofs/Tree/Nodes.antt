-- Facts of paths in a search tree: the node at the end, and the first step of a derivation.
-- Serves "A derivation is a path to a node without goals" of document 01's steps. Assumes nothing.
use Rattle.std.specs.Prelude.{[], ◌++◌, ◌∷◌, ◌≡◌, ℕ}
use Rattle.std.proofs.Math.Option.{Option, none, some}
use Rattle.std.proofs.Common.{◌∙◌, sym}
use Rattle.std.proofs.Math.Path.{refl}
use Rattle.model.specs.Search.{ClausePath, Derivation, Search, node_at}
use Rattle.theory.proofs.Kit.Maps.{some-none}
use Rattle.theory.specs.Tree.Laws.{FirstStep}

module _ (T : Search) where
  pub node_at-child : (n m : T.Node) (k : ℕ) (d : ClausePath) → T.child n k ≡ some m → node_at T n (k ∷ d) ≡ node_at T m d
  unfolding node_at
  node_at-child n m k d e = rw (e, node_at)

  pub node_at-none : (n : T.Node) (k : ℕ) (d : ClausePath) → T.child n k ≡ none → node_at T n (k ∷ d) ≡ none
  unfolding node_at
  node_at-none n k d e = rw (e, node_at)

  pub node_at-here : (n : T.Node) → node_at T n [] ≡ some n
  unfolding node_at
  node_at-here n = refl

  pub node_at-append : (p d : ClausePath) (n m : T.Node) → node_at T n p ≡ some m → node_at T n (p ++ d) ≡ node_at T m d
  node_at-append [] d n m e = let h : n ≡ m = cc (node_at-here n) in cc
  node_at-append (k ∷ p) d n m e = go (λ c. node_at-append p d c m) (T.child n k) refl
    where
      go : ((c : T.Node) → node_at T c p ≡ some m → node_at T c (p ++ d) ≡ node_at T m d) → (o : Option T.Node) → T.child n k ≡ o
          → node_at T n (k ∷ (p ++ d)) ≡ node_at T m d
      go ih none q = absurd (some-none e (node_at-none n k p q))
      go ih (some c) q = node_at-child n c k (p ++ d) q ∙ ih c (cc (node_at-child n c k p q))

  pub derivation-first : {n : T.Node} {k : ℕ} {d : ClausePath} → Derivation T n (k ∷ d) → FirstStep T n k d
  derivation-first {n} {k} {d} h = go (T.child n k) refl
    where
      go : (o : Option T.Node) → T.child n k ≡ o → FirstStep T n k d
      go none q = absurd (some-none h.leads (node_at-none n k d q))
      go (some c) q = record { node = c; by = q; rest = record { end = h.end; leads = sym (node_at-child n c k d q) ∙ h.leads; over = h.over } }
