-- A slot that changes and is not on a line changes nothing for the node at that line's end.
-- Serves every step of document 01: a new slot was free, a freed one has no child. Assumes nothing.
use mathlib.Core.List.{List, Memᴰ, [], ◌∷◌}
use Rattle.std.proofs.Math.Option.{Option, some}
use Rattle.std.proofs.Common.{◌∙◌, sym}
use Rattle.std.specs.Prelude.{◌≡◌, ◌%◌, ◌+◌, ◌/◌, ℕ}
use Rattle.std.proofs.Math.Path.{ap, refl}
use Rattle.model.specs.Definition.{Binding, Node, lookup, ref}
use Rattle.theory.specs.Memory.Fit.{Fit, Ghost, Memory, SlotMemory, StoredFrame, base_in, cell_of, cells_in, empty_array, number_of, store_of}
use Rattle.theory.specs.Memory.Lines.{Frame, Numbered, OnLine, place_on}
use Rattle.theory.specs.Memory.Represents.{Linked, Represents}
use Rattle.theory.specs.Memory.Store.{Store, TrailEntry, Word, cell_else_array, con_word, install_map, lookup_stored, ref_word, shown_entries, unbound_word, value}

pub fit-numbered : (X : Memory) (l : List Frame) → ((f : Frame) → Memᴰ f l → StoredFrame X f) → Numbered l (number_of X)
unfolding Numbered number_of base_in
fit-numbered X l h a o =
    let k = h o.frame o.among in
    rw (o.slot, k.used, k.base) refl

-- the same place with another numbering that agrees on the line
module _ (l : List Frame) (number num' : ℕ → ℕ) (agree : (a : ℕ) → OnLine l a → num' a ≡ number a) where
  value-agrees : (w : Word) → ((b : ℕ) → w ≡ ref_word b → OnLine l b) → value num' w ≡ value number w
  unfolding value
  value-agrees unbound_word h = refl
  value-agrees (con_word c) h = refl
  value-agrees (ref_word b) h = ap (λ (n : ℕ). some (ref n)) (agree b (h b refl))

  pub represents-agrees : (B : List Binding) (S S' : Store) → ((a : ℕ) → OnLine l a → lookup_stored num' S' a ≡ lookup_stored number S a)
      → Represents (place_on l number) B S → Represents (place_on l num') B S'
  represents-agrees B S S' h r =
      record {
        same = λ a o. same a o;
        kept = λ a b o q. r.kept a b o (sym (h a o) ∙ q);
      }
    where
      same : (a : ℕ) → OnLine l a → lookup B (num' a) ≡ value num' (lookup_stored num' S' a)
      same a o = rw (agree a o, h a o) (r.same a o ∙ sym (value-agrees (lookup_stored number S a) (λ b q. r.kept a b o q)))

  pub shown_entries-agrees : (t : List TrailEntry) → Linked (place_on l number) t → shown_entries num' t ≡ shown_entries number t
  unfolding shown_entries
  shown_entries-agrees [] h = refl
  shown_entries-agrees (m ∷ t) h =
      let v = value-agrees m.word (λ b q. h m (Memᴰ.head refl) b q) in
      let r = shown_entries-agrees t (λ x y. h x (Memᴰ.tail y)) in
      cc

-- a slot that changes, and stands on no line of G, changes nothing for G
pub fit-frame : (X X' : Memory) (G : Ghost) (N : Node) → ((s : ℕ) (v : SlotMemory) → X s ≡ some v → (f : Frame) → Memᴰ f G.line → f.slot ≡ s → X' s ≡ some v)
    → Fit X G N → Fit X' G N
unfolding cell_of cells_in lookup_stored cell_else_array number_of base_in
fit-frame X X' G N keep t =
    record {
      chain = t.chain;
      frames = λ f m. let k = t.frames f m in record { slot = k.slot; used = keep f.slot k.slot k.used f m refl; base = k.base };
      ending = t.ending;
      rep = represents-agrees G.line (number_of X) (number_of X') nums N.bindings (store_of X G.entries) (store_of X' G.entries) same t.rep;
      sane = t.sane;
      low = t.low;
      linked = t.linked;
      entries = shown_entries-agrees G.line (number_of X) (number_of X') nums G.entries t.linked ∙ t.entries;
    }
  where
    slots : (a : ℕ) → OnLine G.line a → X' (a / 32) ≡ X (a / 32)
    slots a o =
        let k = t.frames o.frame o.among in
        rw o.slot (keep o.frame.slot k.slot k.used o.frame o.among refl ∙ sym k.used)

    nums : (a : ℕ) → OnLine G.line a → number_of X' a ≡ number_of X a
    nums a o = ap (λ (x : Option SlotMemory). base_in x + a % 32) (slots a o)

    same : (a : ℕ) → OnLine G.line a → lookup_stored (number_of X') (store_of X' G.entries) a ≡ lookup_stored (number_of X) (store_of X G.entries) a
    same a o = ap (λ (x : Option SlotMemory). cell_else_array (cells_in x (a % 32)) (install_map G.entries empty_array (base_in x + a % 32))) (slots a o)
