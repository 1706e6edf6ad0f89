-- What a call does to locks that agree: one that touches no product, an L and a D.
use mathlib.Core.Path.{◌≡◌, sym, ap, ◌∙◌}
use mathlib.Core.Bool.{true, false, ◌&&◌, not, cond}
use mathlib.Core.List.{List, [], ◌∷◌, ◌++◌, append-nil, map-append}
use Prim.Native.Nat.{ℕ, suc, ◌≤◌, ◌<◌}
use native.Mathlib.Omega.{arith}
use lib.Dec.{eqb}
use lib.ListN.{length, get_or, set}
use borrow.Author.Tests.{eqb-true, eqb-false, eq-eqb, ne_eqb}
use Rattle.product.specs.Sum.{Sum}
use Rattle.formula.specs.declared.text.Issued.{Issued}
use Rattle.formula.specs.Outcome.{accepted}
use Rattle.formula.specs.Compiler.{Compiler}
use Rattle.base.proofs.Truth.{and_left, and_right}
use Rattle.base.specs.Lists.{any, keep, concat_map, index_of}
use Rattle.model.specs.State.{Segment, LockProduct, is_of_lock, has_lock, blank_segment}
use Rattle.model.specs.Effects.{add_products, drop_products}
use Rattle.model.specs.History.{Lock}
use Rattle.base.proofs.Lists.{case_bool, eqb_self, any_concat_map, any_keep, from_any, concat_map_append, keep_append, keep_map, keep_concat_map, keep_keep, keep_idle, All-map, All-append, All-keep, index_of_lt, index_of_passes}
use Rattle.model.proofs.Agreement.Segments.{products_at, products_set}
use Rattle.model.proofs.Agreement.StandingLocks.{Standing, lock_in, rows_of, is_on, stays, row_number, keep_rows, rising_keep, rising_add, Sound, AgreeLocks}

module _ (compile : Compiler) where
  module _ (segments : List Segment) (numbers : ℕ) (locks : List Lock) (c : AgreeLocks compile segments numbers locks) where
    -- a call that touches no product
    pub agree_rows : (segments' : List Segment) → ((s : ℕ) → products_at segments' s ≡ products_at segments s) → AgreeLocks compile segments' numbers locks
    agree_rows segments' h =
        record { standing = c.standing; segment_for = c.segment_for; written = c.written; rows = λ s. h s ∙ c.rows s; sound = c.sound; rising = c.rising }

    module _ (s operations : ℕ) (text : List ℕ) (ps : Sum) where
      new : Standing
      new = record { number = numbers; segment = s; operations = operations; text = text; products = ps }

      segment_for' : ℕ → ℕ
      segment_for' n = cond (eqb n numbers) s (c.segment_for n)

      still_sound : (l : Standing) → Sound compile c.segment_for numbers l → Sound compile segment_for' (suc numbers) l
      unfolding segment_for'
      still_sound l k =
          let b = k.below in
          record { issue = k.issue; made = k.made; filled = k.filled; below = omega arith; homed = simp (ne_eqb l.number numbers (λ p. omega arith)) k.homed }

      new_rows : (t : ℕ) → cond (eqb t s) (products_at segments s ++ rows_of new) (products_at segments t) ≡ concat_map rows_of (keep (is_on t) (c.standing ++ new ∷ []))
      unfolding new
      new_rows t =
          case_bool (eqb t s)
          (λ e. simp (e, keep_append, eq-eqb s t (sym (eqb-true t s e)), concat_map_append, append-nil)
          (ap (λ (rs : List LockProduct). rs ++ rows_of new) (ap (products_at segments) (sym (eqb-true t s e)) ∙ c.rows t)))
          (λ e. simp (e, keep_append, ne_eqb s t (λ p. eqb-false t s e (sym p)), append-nil) (c.rows t))

      pub agree_add : s < length segments → 1 ≤ length ps → (i : Issued) → compile i text ≡ accepted ps
          → AgreeLocks compile (set segments s (add_products numbers operations ps (get_or segments s blank_segment))) (suc numbers)
          (locks ++ record { number = numbers; segment = s; operations = operations; text = text } ∷ [])
      unfolding new segment_for'
      agree_add h some_product i m =
          record {
            standing = c.standing ++ new ∷ [];
            segment_for = segment_for';
            written = ap (λ ls. ls ++ lock_in new ∷ []) c.written ∙ sym (map-append lock_in c.standing (new ∷ []));
            rows = λ t. products_set segments s _ h t ∙ new_rows t;
            sound =
                All-append (Sound compile segment_for' (suc numbers)) c.standing (new ∷ [])
                (All-map still_sound c.standing c.sound)
                (record { issue = i; made = m; filled = some_product; below = omega arith; homed = simp (eqb_self numbers) }, tt);
            rising = rising_add new c.standing (All-map (λ l k. k.below) c.standing c.sound) c.rising;
          }

    module _ (n : ℕ) (there : any (has_lock n) segments ≡ true) where
      abbrev pub place : ℕ
      place = index_of (has_lock n) segments

      -- the lock is on the segment where it is found
      pub found : c.segment_for n ≡ place
      found =
          from_any (λ l. is_on place l && any (is_of_lock n) (rows_of l)) (Sound compile c.segment_for numbers) c.standing c.sound
          (λ l k t.
          let h = eqb-true l.segment place (and_left (is_on place l) (any (is_of_lock n) (rows_of l)) t) in
          let m = eqb-true l.number n (sym (row_number n l k.filled) ∙ and_right (is_on place l) (any (is_of_lock n) (rows_of l)) t) in
          ap c.segment_for (sym m) ∙ k.homed ∙ h)
          (sym (any_keep (λ l. any (is_of_lock n) (rows_of l)) (is_on place) c.standing)
          ∙ sym (any_concat_map (is_of_lock n) rows_of (keep (is_on place) c.standing))
          ∙ ap (any (is_of_lock n)) (sym (c.rows place))
          ∙ index_of_passes (has_lock n) blank_segment segments there)

      dropped_rows : (t : ℕ) → cond (eqb t place) (drop_products n (get_or segments place blank_segment)).products (products_at segments t) ≡ concat_map rows_of (keep (is_on t) (keep (stays n) c.standing))
      dropped_rows t =
          case_bool (eqb t place)
          (λ e. simp e
          (ap (keep (λ (r : LockProduct). not (is_of_lock n r))) (ap (products_at segments) (sym (eqb-true t place e)) ∙ c.rows t)
          ∙ keep_concat_map (λ r. not (is_of_lock n r)) (stays n) rows_of (keep_rows n) (keep (is_on t) c.standing)
          ∙ ap (concat_map rows_of) (keep_keep (stays n) (is_on t) c.standing)))
          (λ e. simp e
          (c.rows t
          ∙ ap (concat_map rows_of) (sym (keep_idle (stays n) (is_on t) c.standing (All-map (elsewhere t e) c.standing c.sound)))))
        where
          elsewhere : (t : ℕ) → eqb t place ≡ false → (l : Standing) → Sound compile c.segment_for numbers l → is_on t l ≡ true → stays n l ≡ true
          elsewhere t e l k on =
              case_bool (eqb l.number n)
              (λ q. absurd (eqb-false t place e (sym (eqb-true l.segment t on) ∙ sym k.homed ∙ ap c.segment_for (eqb-true l.number n q) ∙ found)))
              (λ q. simp q)

      pub agree_drop : AgreeLocks compile (set segments place (drop_products n (get_or segments place blank_segment))) numbers (keep (λ l. not (eqb l.number n)) locks)
      agree_drop =
          record {
            standing = keep (stays n) c.standing;
            segment_for = c.segment_for;
            written = ap (keep (λ (l : Lock). not (eqb l.number n))) c.written ∙ keep_map (λ (l : Lock). not (eqb l.number n)) lock_in c.standing;
            rows = λ t. products_set segments place _ (index_of_lt (has_lock n) segments there) t ∙ dropped_rows t;
            sound = All-keep (Sound compile c.segment_for numbers) (stays n) c.standing c.sound;
            rising = rising_keep (stays n) c.standing c.rising;
          }
