-- The reader is right. Sound: a tree that it answers is spelt in front of the text, is no deeper than allowed and has
-- known atoms alone. Complete: a tree that is spelt in front of a text is read there, at any fuel that its length asks
-- for; of a row of ANDs or ORs the reader comes to the place after it with the row read so far.
use Rattle.std.specs.Prelude.{Option, None, Some}
use mathlib.Core.Path.{◌≡◌, refl, ap, sym, ◌∙◌}
use mathlib.Core.Bool.{Bool, true, false, cond}
use mathlib.Core.List.{List, [], ◌∷◌, ◌++◌, append_assoc, append-nil}
use Prim.Native.Nat.{ℕ, zero, suc, ◌+◌, ◌*◌, ◌≤◌}
use native.Mathlib.Omega.{arith}
use lib.Dec.{eqb}
use lib.ListN.{length, get_or, drop, length-append}
use borrow.Author.Tests.{eqb-true}
use Rattle.std.proofs.lemmas.Bool.{cond_both}
use Rattle.std.proofs.lemmas.List.{nil_from_length}
use Rattle.product.specs.declared.literal.Key.TheVariants.{User, Thread, Segment, Defined}
use Rattle.product.specs.Atom.{Atom}
use Rattle.base.proofs.Truth.{and_both, both_and}
use Rattle.formula.specs.Tree.{Level, nots, ands, ors, Tree, atom, negate, bracket, factor, and, term, or, depth}
use Rattle.formula.specs.Spelling.{decimal, spell_atom, spell}
use Rattle.formula.specs.Text.{every_atom, most_deep}
use Rattle.formula.specs.Internal.Reader.{digit, read_number, Found, found, next, close, whole_of, keep, named, read_atom, read_nots, read_bracket, read_ands, more_ands, read_ors, more_ors, read_text}
use Rattle.formula.proofs.Decimals.{number_read, number_spelt}

-- a text whose first byte is not 0 has that byte in front
pub front : (s : List ℕ) (b : ℕ) → 1 ≤ b → eqb (get_or s 0 0) b ≡ true → s ≡ b ∷ drop 1 s
front [] b p h = let e = eqb-true 0 b h in absurd (omega arith)
front (x ∷ s) b p h = ap (λ (y : ℕ). y ∷ s) (eqb-true x b h)

pub spell_size : {l : Level} (t : Tree l) → 1 ≤ length (spell t)
unfolding spell
spell_size (atom a) = omega arith
spell_size (negate t) = omega arith
spell_size (bracket t) = omega arith
spell_size (factor t) = spell_size t
spell_size (and t u) = omega (arith, spell_size t, length-append (spell t) (38 ∷ spell u))
spell_size (term t) = spell_size t
spell_size (or t u) = omega (arith, spell_size t, length-append (spell t) (124 ∷ spell u))

-- a row with one more of its parts
longer : {l m : Level} (b : ℕ) (t : Tree l) (u : Tree m) (s r : List ℕ) → 1 ≤ b → eqb (get_or s 0 0) b ≡ true → drop 1 s ≡ spell u ++ r
    → spell t ++ s ≡ (spell t ++ b ∷ spell u) ++ r
longer b t u s r h e p =
    ap (λ (w : List ℕ). spell t ++ w) (front s b h e ∙ ap (λ (w : List ℕ). b ∷ w) p) ∙ sym (append_assoc (spell t) (b ∷ spell u) r)

module _ (known : Atom → Bool) where
  pub data Sound (k : ℕ) {l : Level} (s : List ℕ) : Found l → Type 0 where
    nothing : Sound k s None
    reads : {t : Tree l} {r : List ℕ} → s ≡ spell t ++ r → depth t ≤ k → every_atom known t ≡ true → Sound k s (Some (t, r))

  sound_at : {k : ℕ} {l : Level} {s u : List ℕ} {x : Found l} → u ≡ s → Sound k s x → Sound k u x
  sound_at e nothing = nothing
  sound_at e (reads p d n) = reads (e ∙ p) d n

  sound_next : {j k : ℕ} {l m : Level} {s u : List ℕ} {x : Found l} (g : Tree l → List ℕ → Found m) → Sound j s x
      → ((t : Tree l) (r : List ℕ) → s ≡ spell t ++ r → depth t ≤ j → every_atom known t ≡ true → Sound k u (g t r)) → Sound k u (next x g)
  sound_next g nothing f = nothing
  sound_next g (reads {t} {r} p d n) f = f t r p d n

  sound_kept : (k : ℕ) (s : List ℕ) (a : Atom) (r : List ℕ) → s ≡ spell_atom a ++ r → Sound k s (keep known (Some a) r)
  unfolding spell depth every_atom
  sound_kept k s a r e = cond_both (known a) _ _ (Sound k s) (λ h. reads e (omega arith) h) (λ h. nothing)

  sound_named : (k : ℕ) (s : List ℕ) (x : Option (ℕ × List ℕ)) → read_number (drop 1 s) ≡ x → Sound k s (named known (get_or s 0 0) x)
  sound_named k s None e = nothing
  sound_named k s (Some p) e =
      cond_both (eqb (get_or s 0 0) 85) _ _ Kept (λ h. sound_kept k s (User p.0) p.1 (after 85 (omega arith) h))
      (λ _. cond_both (eqb (get_or s 0 0) 82) _ _ Kept (λ h. sound_kept k s (Thread p.0) p.1 (after 82 (omega arith) h))
      (λ _. cond_both (eqb (get_or s 0 0) 83) _ _ Kept (λ h. sound_kept k s (Segment p.0) p.1 (after 83 (omega arith) h))
      (λ _. cond_both (eqb (get_or s 0 0) 68) _ _ Kept (λ h. sound_kept k s (Defined p.0) p.1 (after 68 (omega arith) h)) (λ _. nothing))))
    where
      Kept : Option Atom → Type 0
      Kept o = Sound k s (keep known o p.1)

      after : (b : ℕ) → 1 ≤ b → eqb (get_or s 0 0) b ≡ true → s ≡ b ∷ (decimal p.0 ++ p.1)
      after b l h = front s b l h ∙ ap (λ (u : List ℕ). b ∷ u) (number_spelt (drop 1 s) p.0 p.1 e)

  sound_atom : (k : ℕ) (s : List ℕ) → Sound k s (read_atom known s)
  unfolding read_atom
  sound_atom k s = sound_named k s (read_number (drop 1 s)) refl

  sound_close : (k : ℕ) (s : List ℕ) (t : Tree ors) (r : List ℕ) → s ≡ spell t ++ r → depth t ≤ k → every_atom known t ≡ true
      → Sound (suc k) (40 ∷ s) (close t r)
  unfolding spell depth every_atom
  sound_close k s t r p d n =
      cond_both (eqb (get_or r 0 0) 41) _ _ (Sound (suc k) (40 ∷ s))
      (λ e.
      let w = p ∙ ap (λ (u : List ℕ). spell t ++ u) (front r 41 (omega arith) e) ∙ sym (append_assoc (spell t) (41 ∷ []) (drop 1 r)) in
      reads (ap (λ (u : List ℕ). 40 ∷ u) w) (omega arith) n)
      (λ e. nothing)

  sound_negate : (k : ℕ) (s : List ℕ) → eqb (get_or s 0 0) 33 ≡ true → (t : Tree nots) (r : List ℕ) → drop 1 s ≡ spell t ++ r → depth t ≤ k
      → every_atom known t ≡ true → Sound k s (found (negate t) r)
  unfolding spell depth every_atom
  sound_negate k s e t r p d n = reads (front s 33 (omega arith) e ∙ ap (λ (u : List ℕ). 33 ∷ u) p) d n

  mutual
    unfolding read_nots spell depth every_atom

    pub sound_nots : (f k : ℕ) (s : List ℕ) → Sound k s (read_nots known f k s)
    sound_nots zero k s = nothing
    sound_nots (suc f) k s =
        cond_both (eqb (get_or s 0 0) 33) _ _ (Sound k s)
        (λ e. sound_next _ (sound_nots f k (drop 1 s)) (sound_negate k s e))
        (λ _. cond_both (eqb (get_or s 0 0) 40) _ _ (Sound k s)
        (λ e. sound_at (front s 40 (omega arith) e) (sound_bracket f k (drop 1 s)))
        (λ _. sound_atom k s))

    pub sound_bracket : (f k : ℕ) (s : List ℕ) → Sound k (40 ∷ s) (read_bracket known f k s)
    sound_bracket zero k s = nothing
    sound_bracket (suc f) zero s = nothing
    sound_bracket (suc f) (suc k) s = sound_next _ (sound_ors f k s) (sound_close k s)

    pub sound_ands : (f k : ℕ) (s : List ℕ) → Sound k s (read_ands known f k s)
    sound_ands zero k s = nothing
    sound_ands (suc f) k s = sound_next _ (sound_nots f k s) (λ t r p d n. sound_at p (sound_more_ands f k (factor t) r d n))

    pub sound_more_ands : (f k : ℕ) (t : Tree ands) (s : List ℕ) → depth t ≤ k → every_atom known t ≡ true
        → Sound k (spell t ++ s) (more_ands known f k t s)
    sound_more_ands zero k t s d n = nothing
    sound_more_ands (suc f) k t s d n =
        cond_both (eqb (get_or s 0 0) 38) _ _ (Sound k (spell t ++ s))
        (λ e. sound_next _ (sound_nots f k (drop 1 s))
        (λ u r p b m. sound_at (longer 38 t u s r (omega arith) e p) (sound_more_ands f k (and t u) r (omega arith) (both_and n m))))
        (λ e. reads refl d n)

    pub sound_ors : (f k : ℕ) (s : List ℕ) → Sound k s (read_ors known f k s)
    sound_ors zero k s = nothing
    sound_ors (suc f) k s = sound_next _ (sound_ands f k s) (λ t r p d n. sound_at p (sound_more_ors f k (term t) r d n))

    pub sound_more_ors : (f k : ℕ) (t : Tree ors) (s : List ℕ) → depth t ≤ k → every_atom known t ≡ true
        → Sound k (spell t ++ s) (more_ors known f k t s)
    sound_more_ors zero k t s d n = nothing
    sound_more_ors (suc f) k t s d n =
        cond_both (eqb (get_or s 0 0) 124) _ _ (Sound k (spell t ++ s))
        (λ e. sound_next _ (sound_ands f k (drop 1 s))
        (λ u r p b m. sound_at (longer 124 t u s r (omega arith) e p) (sound_more_ors f k (or t u) r (omega arith) (both_and n m))))
        (λ e. reads refl d n)

  -- fuel for each level: four units a byte, and one, two or three
  abbrev Complete : (l : Level) → Tree l → Type 0
  Complete nots t = (k f : ℕ) (r : List ℕ) → depth t ≤ k → every_atom known t ≡ true → digit (get_or r 0 0) ≡ false
      → 4 * length (spell t ++ r) + 1 ≤ f → read_nots known f k (spell t ++ r) ≡ found t r
  Complete ands t = (k f : ℕ) (r : List ℕ) → depth t ≤ k → every_atom known t ≡ true → digit (get_or r 0 0) ≡ false
      → 4 * length (spell t ++ r) + 2 ≤ f → (g : ℕ) × (4 * length r + 2 ≤ g) × (read_ands known f k (spell t ++ r) ≡ more_ands known g k t r)
  Complete ors t = (k f : ℕ) (r : List ℕ) → depth t ≤ k → every_atom known t ≡ true → digit (get_or r 0 0) ≡ false → eqb (get_or r 0 0) 38 ≡ false
      → 4 * length (spell t ++ r) + 3 ≤ f → (g : ℕ) × (4 * length r + 3 ≤ g) × (read_ors known f k (spell t ++ r) ≡ more_ors known g k t r)

  ands_stop : (g k : ℕ) (t : Tree ands) (r : List ℕ) → 1 ≤ g → eqb (get_or r 0 0) 38 ≡ false → more_ands known g k t r ≡ found t r
  unfolding read_nots
  ands_stop zero k t r p e = absurd (omega arith)
  ands_stop (suc g) k t r p e = rw e

  ors_stop : (g k : ℕ) (t : Tree ors) (r : List ℕ) → 1 ≤ g → eqb (get_or r 0 0) 124 ≡ false → more_ors known g k t r ≡ found t r
  unfolding read_nots
  ors_stop zero k t r p e = absurd (omega arith)
  ors_stop (suc g) k t r p e = rw e

  complete_atom : (a : Atom) → Complete nots (atom a)
  unfolding read_nots read_atom spell depth every_atom
  complete_atom a k zero r d n e h = absurd (omega arith)
  complete_atom (User m) k (suc f) r d n e h = rw (number_read m r e, n)
  complete_atom (Thread m) k (suc f) r d n e h = rw (number_read m r e, n)
  complete_atom (Segment m) k (suc f) r d n e h = rw (number_read m r e, n)
  complete_atom (Defined m) k (suc f) r d n e h = rw (number_read m r e, n)

  complete_negate : (t : Tree nots) → Complete nots t → Complete nots (negate t)
  unfolding read_nots spell depth every_atom
  complete_negate t i k zero r d n e h = absurd (omega arith)
  complete_negate t i k (suc f) r d n e h = rw (i k f r d n e (omega arith))

  complete_bracket : (t : Tree ors) → Complete ors t → Complete nots (bracket t)
  unfolding read_nots spell depth every_atom
  complete_bracket t i k zero r d n e h = absurd (omega arith)
  complete_bracket t i k (suc zero) r d n e h = absurd (omega arith)
  complete_bracket t i zero (suc (suc f)) r d n e h = absurd (omega arith)
  complete_bracket t i (suc k) (suc (suc f)) r d n e h =
      let a = append_assoc (spell t) (41 ∷ []) r in
      let c = i k f (41 ∷ r) (omega arith) n refl refl (omega (arith, ap length a)) in
      rw (a, c.2, ors_stop c.0 k t (41 ∷ r) (omega (arith, c.1)) refl)

  complete_factor : (t : Tree nots) → Complete nots t → Complete ands (factor t)
  unfolding read_nots spell depth every_atom
  complete_factor t i k zero r d n e h = absurd (omega arith)
  complete_factor t i k (suc f) r d n e h =
      (f, omega (arith, spell_size t, length-append (spell t) r), rw (i k f r d n e (omega arith)))

  complete_term : (t : Tree ands) → Complete ands t → Complete ors (term t)
  unfolding read_nots spell depth every_atom
  complete_term t i k zero r d n e s h = absurd (omega arith)
  complete_term t i k (suc f) r d n e s h =
      let c = i k f r d n e (omega arith) in
      (f, omega (arith, spell_size t, length-append (spell t) r), rw (c.2, ands_stop c.0 k t r (omega (arith, c.1)) s))

  -- one `&` further
  ands_step : (t : Tree ands) (u : Tree nots) → Complete nots u → (k g : ℕ) (r : List ℕ) → depth u ≤ k → every_atom known u ≡ true
      → digit (get_or r 0 0) ≡ false → 4 * length (38 ∷ (spell u ++ r)) + 2 ≤ g
      → (h : ℕ) × (4 * length r + 2 ≤ h) × (more_ands known g k t (38 ∷ (spell u ++ r)) ≡ more_ands known h k (and t u) r)
  unfolding read_nots
  ands_step t u j k zero r d n e h = absurd (omega arith)
  ands_step t u j k (suc g) r d n e h = (g, omega (arith, length-append (spell u) r), rw (j k g r d n e (omega arith)))

  complete_and : (t : Tree ands) (u : Tree nots) → Complete ands t → Complete nots u → Complete ands (and t u)
  unfolding spell depth every_atom
  complete_and t u i j k f r d n e h =
      let a = append_assoc (spell t) (38 ∷ spell u) r in
      let b = and_both (every_atom known t) (every_atom known u) n in
      let c = i k f (38 ∷ (spell u ++ r)) (omega arith) b.0 refl (omega (arith, ap length a)) in
      let m = ands_step t u j k c.0 r (omega arith) b.1 e c.1 in
      (m.0, m.1, ap (λ (x : List ℕ). read_ands known f k x) a ∙ (c.2 ∙ m.2))

  -- one `|` further
  ors_step : (t : Tree ors) (u : Tree ands) → Complete ands u → (k g : ℕ) (r : List ℕ) → depth u ≤ k → every_atom known u ≡ true
      → digit (get_or r 0 0) ≡ false → eqb (get_or r 0 0) 38 ≡ false → 4 * length (124 ∷ (spell u ++ r)) + 3 ≤ g
      → (h : ℕ) × (4 * length r + 3 ≤ h) × (more_ors known g k t (124 ∷ (spell u ++ r)) ≡ more_ors known h k (or t u) r)
  unfolding read_nots
  ors_step t u j k zero r d n e s h = absurd (omega arith)
  ors_step t u j k (suc g) r d n e s h =
      let c = j k g r d n e (omega arith) in
      (g, omega (arith, length-append (spell u) r), rw (c.2, ands_stop c.0 k u r (omega (arith, c.1)) s))

  complete_or : (t : Tree ors) (u : Tree ands) → Complete ors t → Complete ands u → Complete ors (or t u)
  unfolding spell depth every_atom
  complete_or t u i j k f r d n e s h =
      let a = append_assoc (spell t) (124 ∷ spell u) r in
      let b = and_both (every_atom known t) (every_atom known u) n in
      let c = i k f (124 ∷ (spell u ++ r)) (omega arith) b.0 refl refl (omega (arith, ap length a)) in
      let m = ors_step t u j k c.0 r (omega arith) b.1 e s c.1 in
      (m.0, m.1, ap (λ (x : List ℕ). read_ors known f k x) a ∙ (c.2 ∙ m.2))

  complete : {l : Level} (t : Tree l) → Complete l t
  complete (atom a) = complete_atom a
  complete (negate t) = complete_negate t (complete t)
  complete (bracket t) = complete_bracket t (complete t)
  complete (factor t) = complete_factor t (complete t)
  complete (and t u) = complete_and t u (complete t) (complete u)
  complete (term t) = complete_term t (complete t)
  complete (or t u) = complete_or t u (complete t) (complete u)

  -- the text as a whole
  pub record Spells (s : List ℕ) (t : Tree ors) : Type 0 where
    pub spelt : s ≡ spell t
    pub shallow : depth t ≤ most_deep
    pub known_atoms : every_atom known t ≡ true

  sound_whole : {s : List ℕ} {x : Found ors} (t : Tree ors) → Sound most_deep s x → whole_of x ≡ Some t → Spells s t
  sound_whole t nothing e = let z : ◌≡◌ {A = ℕ} 0 1 = cc in absurd (omega arith)
  sound_whole {s} t (reads {t = u} {r} p d n) e = go r p (eqb (length r) 0) refl e
    where
      go : (r : List ℕ) → s ≡ spell u ++ r → (b : Bool) → eqb (length r) 0 ≡ b → cond b (Some u) None ≡ Some t → Spells s t
      go r p true f e =
          let i : u ≡ t = cc in
          let q : s ≡ spell u = p ∙ rw (nil_from_length r (eqb-true (length r) 0 f)) (append-nil (spell u)) in
          rw (← i) (record { spelt = q; shallow = d; known_atoms = n })
      go r p false f e = let z : ◌≡◌ {A = ℕ} 0 1 = cc in absurd (omega arith)

  -- the reader answers a tree exactly where the text spells it
  pub reader_sound : (s : List ℕ) (t : Tree ors) → read_text known s ≡ Some t → Spells s t
  unfolding read_text
  reader_sound s t e = sound_whole t (sound_ors (4 * length s + 3) most_deep s) e

  pub reader_complete : (s : List ℕ) (t : Tree ors) → Spells s t → read_text known s ≡ Some t
  unfolding read_text
  reader_complete s t h =
      let a : s ≡ spell t ++ [] = h.spelt ∙ sym (append-nil (spell t)) in
      let c = complete t most_deep (4 * length (spell t ++ []) + 3) [] h.shallow h.known_atoms refl refl (omega arith) in
      ap (λ (x : List ℕ). whole_of (read_ors known (4 * length x + 3) most_deep x)) a
      ∙ ap whole_of (c.2 ∙ ors_stop c.0 most_deep t [] (omega (arith, c.1)) refl)
