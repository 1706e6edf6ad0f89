-- Whose threads and segments are after any event: S and E write the one, N the other, and nothing else does.
use Rattle.std.specs.Prelude.{Ok, Err, Option, None, Some}
use mathlib.Core.Path.{◌≡◌, refl, sym, ap, ◌∙◌}
use mathlib.Core.Bool.{false, ◌&&◌, cond, true≢false}
use mathlib.Core.List.{List, [], ◌∷◌, ◌++◌, append-nil, append_assoc}
use Prim.Native.Nat.{ℕ}
use lib.Dec.{eqb}
use Rattle.base.specs.Lists.{adjust, map_option}
use Rattle.base.proofs.Lists.{case_bool}
use Rattle.product.specs.declared.literal.Key.{Key}
use Rattle.call.specs.declared.request.Request.{Request}
use Rattle.call.specs.declared.request.Request.TheVariants as request
use Rattle.call.specs.Calls.{Decoded}
use Rattle.call.specs.Calls.{Call, decoded}
use Rattle.call.specs.Requests.{call_of}
use Rattle.call.specs.Letters as letters
use Rattle.call.proofs.Requests.{requests_exactly}
use Rattle.model.specs.Answers.{Answer}
use Rattle.model.specs.Answers.{is_accepted, answer_value}
use Rattle.model.specs.Threads.{Frame, Thread}
use Rattle.model.specs.History.{History, Event, Entry, event, on_keys, on_frames, editor_in, note, note_answer, advance, history_from, counts, maker_in, makers_from}

-- ---- one event more

pub history_one : (e : Event) (h : History) (es : List Event) → history_from h (es ++ e ∷ []) ≡ advance (history_from h es) e
history_one e h [] = refl
history_one e h (x ∷ xs) = history_one e (advance h x) xs

pub makers_one : (e : Event) (h : History) (es : List Event) → makers_from h (es ++ e ∷ []) ≡ makers_from h es ++ maker_in (history_from h es) e
makers_one e h [] = append-nil (maker_in h e)
makers_one e h (x ∷ xs) =
    ap (λ (ms : List ℕ). maker_in h x ++ ms) (makers_one e (advance h x) xs)
    ∙ sym (append_assoc (maker_in h x) (makers_from (advance h x) xs) (maker_in (history_from (advance h x) xs) e))

-- ---- what an accepted request writes

user_kept : (f : List Frame → List Frame) (o : Option Thread) → map_option (λ t. t.user) (map_option (on_frames f) o) ≡ map_option (λ t. t.user) o
user_kept f None = refl
user_kept f (Some t) = refl

owner_kept : (f : List Key → List Key) (o : Option Entry) → map_option (λ e. e.owner) (map_option (on_keys f) o) ≡ map_option (λ e. e.owner) o
owner_kept f None = refl
owner_kept f (Some e) = refl

module _ (h : History) (text : List ℕ) (k : ℕ) where
  called : (a n : ℕ) (f : List Frame → List Frame) → map_option (λ t. t.user) (adjust h.threads a (on_frames f) n) ≡ map_option (λ t. t.user) (h.threads n)
  called a n f = case_bool (eqb n a) (λ p. simp p (user_kept f (h.threads n))) (λ p. simp p)

  listed : (b s : ℕ) (f : List Key → List Key) → map_option (λ e. e.owner) (adjust h.segments b (on_keys f) s) ≡ map_option (λ e. e.owner) (h.segments s)
  listed b s f = case_bool (eqb s b) (λ p. simp p (owner_kept f (h.segments s))) (λ p. simp p)

  note_users : (q : Request) (n : ℕ)
      → map_option (λ t. t.user) ((note h q text k).threads n)
      ≡ cond (eqb (call_of q text).letter letters.S && eqb n k) (Some (call_of q text).a)
      (cond (eqb (call_of q text).letter letters.E && eqb n (call_of q text).a) None (map_option (λ t. t.user) (h.threads n)))
  unfolding note
  note_users request.NewUser n = refl
  note_users (request.StartThread a) n = case_bool (eqb n k) (λ p. simp p) (λ p. simp p)
  note_users (request.EndThread a) n = case_bool (eqb n a) (λ p. simp p) (λ p. simp p)
  note_users (request.NewSegment a b) n = refl
  note_users (request.NewKey a) n = refl
  note_users (request.GiveKey a b c) n = refl
  note_users (request.TakeKey a b c) n = user_kept _ (h.threads n)
  note_users (request.AddLock a b c) n = refl
  note_users (request.DropLock a b) n = refl
  note_users (request.CallSegment a b) n = called a n _
  note_users (request.ReturnCall a) n = called a n _
  note_users (request.Access a b c) n = refl

  note_owners : (q : Request) (s : ℕ)
      → map_option (λ e. e.owner) ((note h q text k).segments s)
      ≡ cond (eqb (call_of q text).letter letters.N && eqb s k) (Some (editor_in h (call_of q text).a)) (map_option (λ e. e.owner) (h.segments s))
  unfolding note
  note_owners request.NewUser s = refl
  note_owners (request.StartThread a) s = refl
  note_owners (request.EndThread a) s = refl
  note_owners (request.NewSegment a b) s = case_bool (eqb s k) (λ p. simp p) (λ p. simp p)
  note_owners (request.NewKey a) s = refl
  note_owners (request.GiveKey a b c) s = listed b s _
  note_owners (request.TakeKey a b c) s = listed b s _
  note_owners (request.AddLock a b c) s = refl
  note_owners (request.DropLock a b) s = refl
  note_owners (request.CallSegment a b) s = refl
  note_owners (request.ReturnCall a) s = refl
  note_owners (request.Access a b c) s = refl

-- ---- what an event writes, of a call that is answered as the guard does: accepted only if it is well formed

module _ (h : History) (x : Call) where
  abbrev UsersAfter : ℕ → Decoded → Answer → Type 0
  UsersAfter n k r =
      map_option (λ t. t.user) ((note_answer h k x.text r).threads n)
      ≡ cond (counts letters.S (event x r) && eqb n (answer_value r)) (Some x.a)
      (cond (counts letters.E (event x r) && eqb n x.a) None (map_option (λ t. t.user) (h.threads n)))

  abbrev OwnersAfter : ℕ → Decoded → Answer → Type 0
  OwnersAfter s k r =
      map_option (λ e. e.owner) ((note_answer h k x.text r).segments s)
      ≡ cond (counts letters.N (event x r) && eqb s (answer_value r)) (Some (editor_in h x.a)) (map_option (λ e. e.owner) (h.segments s))

  accepted_users : (q : Request) → decoded x ≡ Some q → (k n : ℕ) → UsersAfter n (Some q) (Ok k)
  accepted_users q e k n =
      let s = (requests_exactly x q).0 e in
      rw (ap (λ (y : Call). y.letter) s, ap (λ (y : Call). y.a) s) (note_users h x.text k q n)

  accepted_owners : (q : Request) → decoded x ≡ Some q → (k s : ℕ) → OwnersAfter s (Some q) (Ok k)
  accepted_owners q e k s =
      let i = (requests_exactly x q).0 e in
      rw (ap (λ (y : Call). y.letter) i, ap (λ (y : Call). y.a) i) (note_owners h x.text k q s)

  module _ (r : Answer) (formed : decoded x ≡ None → is_accepted r ≡ false) where
    pub users_after : (n : ℕ)
        → map_option (λ t. t.user) ((advance h (event x r)).threads n)
        ≡ cond (counts letters.S (event x r) && eqb n (answer_value r)) (Some x.a)
        (cond (counts letters.E (event x r) && eqb n x.a) None (map_option (λ t. t.user) (h.threads n)))
    unfolding advance
    users_after n = by (decoded x) refl r refl
      where
        by : (k : Decoded) → decoded x ≡ k → (y : Answer) → r ≡ y → UsersAfter n k y
        by None e (Ok k) p = absurd (true≢false (sym (ap is_accepted p) ∙ formed e))
        by None e (Err z) p = refl
        by (Some q) e (Ok k) p = accepted_users q e k n
        by (Some q) e (Err z) p = refl

    pub owners_after : (s : ℕ)
        → map_option (λ e. e.owner) ((advance h (event x r)).segments s)
        ≡ cond (counts letters.N (event x r) && eqb s (answer_value r)) (Some (editor_in h x.a)) (map_option (λ e. e.owner) (h.segments s))
    unfolding advance
    owners_after s = by (decoded x) refl r refl
      where
        by : (k : Decoded) → decoded x ≡ k → (y : Answer) → r ≡ y → OwnersAfter s k y
        by None e (Ok k) p = absurd (true≢false (sym (ap is_accepted p) ∙ formed e))
        by None e (Err z) p = refl
        by (Some q) e (Ok k) p = accepted_owners q e k s
        by (Some q) e (Err z) p = refl
