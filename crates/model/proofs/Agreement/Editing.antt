-- Request P4: its parts put together.
use Rattle.std.specs.Prelude.{Err, Option, None, Some}
use mathlib.Core.Path.{◌≡◌, refl, sym, ap, subst, ◌∙◌}
use mathlib.Core.Bool.{Bool, true, false, ◌&&◌, cond, false≢true}
use mathlib.Core.List.{List, [], ◌∷◌, ◌++◌}
use mathlib.Core.Logic.{◌↔◌}
use Prim.Native.Nat.{ℕ}
use lib.Dec.{eqb}
use borrow.Author.Tests.{eqb-true}
use Rattle.base.specs.Lists.{any, map_option, or_default}
use Rattle.base.proofs.Truth.{and_left, and_right}
use Rattle.formula.specs.Outcome.{outcome_of}
use Rattle.call.specs.declared.request.Request.{Request}
use Rattle.call.specs.Calls.{Call, decoded}
use Rattle.call.specs.Letters as letters
use Rattle.call.proofs.Requests.{requests_exactly}
use Rattle.model.specs.declared.answer.Refusal.TheVariants.{UnknownUser, NoThread, NotOwner}
use Rattle.model.specs.Threads.{Thread}
use Rattle.model.specs.Cells.{Cells, state_of}
use Rattle.model.specs.History.{History, Event, event, empty_history, history, makers_of, editor_in, counts}
use Rattle.model.specs.Replay.{reached, events, answer_to}
use Rattle.model.specs.Theorems.Mirror.{Mirrors}
use Rattle.model.specs.Theorems.Neighbours.{has_letter}
use Rattle.model.specs.Theorems.Editing.{edit_letters, run_letters, owner_in, Edits, Editing, user_in}
use Rattle.model.specs.Answers.{is_accepted, answer_value}
use Rattle.call.specs.Calls.{Decoded}
use Rattle.model.specs.Answers.{Answer}
use Rattle.model.proofs.Refusals.Refusing.{refused_as, refusing}
use Rattle.model.proofs.Agreement.Mirror.{mirror}
use Rattle.model.proofs.Agreement.EditsWritten.{history_one, makers_one, users_after, owners_after}
use Rattle.model.proofs.Agreement.EditsAlike.{call_alike}
use Rattle.model.proofs.Agreement.EditsRefused.{through, first_two, first_gone, never_one, give_six, take_six, lock_six, drop_six}
use Rattle.model.proofs.Agreement.EditsAccepted.{start_one, new_free, key_free, give_free, take_free, drop_free}

same_where : {u : Option ℕ} {v : ℕ} (w : Option ℕ) (b : Bool) → (b ≡ true → u ≡ Some v) → cond b (Some v) w ≡ cond b u w
same_where w true h = sym (h refl)
same_where w false h = refl

made_by_lem : {u : Option ℕ} {v : ℕ} (b : Bool) → (b ≡ true → u ≡ Some v) → cond b (v ∷ []) [] ≡ cond b (or_default [] (λ x. x ∷ []) u) []
made_by_lem true h = sym (ap (or_default [] (λ x. x ∷ [])) (h refl))
made_by_lem false h = refl

module _ (xs : List Call) (next : Call) where
  abbrev es : List Event
  es = events outcome_of xs

  abbrev d : Cells
  d = reached outcome_of xs

  abbrev r : Answer
  r = answer_to outcome_of xs next

  m : Mirrors es (state_of d)
  m = mirror.state xs

  no_thread_lem : (q : Request) → decoded next ≡ Some q → has_letter edit_letters next ≡ true → (r ≡ Err NoThread) ↔ ((history es).threads next.a ≡ None)
  no_thread_lem q e h =
      let s = (requests_exactly next q).0 e in
      subst (λ (a : ℕ). (r ≡ Err NoThread) ↔ ((history es).threads a ≡ None)) (sym (ap (λ (y : Call). y.a) s))
      (through (refused_as outcome_of d next q e NoThread) (first_two es d m next.text q (sym (ap (has_letter edit_letters) s) ∙ h)))

  formed : decoded next ≡ None → is_accepted r ≡ false
  formed e = ap is_accepted ((refusing outcome_of d next).corrupt.1 e)

  -- an accepted edit has an editor
  edited : (l : ℕ) → any (eqb l) edit_letters ≡ true → counts l (event next r) ≡ true → user_in es next.a ≡ Some (editor_in (history es) next.a)
  edited l h t = by_request (decoded next) refl
    where
      by_thread_lem : (q : Request) → decoded next ≡ Some q → (o : Option Thread) → (history es).threads next.a ≡ o
          → user_in es next.a ≡ Some (editor_in (history es) next.a)
      by_thread_lem q e None p =
          let letter = eqb-true next.letter l (and_right (is_accepted r) _ t) in
          let gone = (no_thread_lem q e (ap (λ (k : ℕ). any (eqb k) edit_letters) letter ∙ h)).1 p in
          absurd (false≢true (sym (ap is_accepted gone) ∙ and_left (is_accepted r) _ t))
      by_thread_lem q e (Some u) p = rw p refl

      by_request : (k : Decoded) → decoded next ≡ k → user_in es next.a ≡ Some (editor_in (history es) next.a)
      by_request None e = absurd (false≢true (sym (formed e) ∙ and_left (is_accepted r) _ t))
      by_request (Some q) e = by_thread_lem q e ((history es).threads next.a) refl

  edits_after : Edits es next r
  edits_after =
      record {
        no_thread = no_thread_lem;
        not_live = λ q e h.
            let s = (requests_exactly next q).0 e in
            subst (λ (a : ℕ). (r ≡ Err NoThread) ↔ ((history es).threads a ≡ None)) (sym (ap (λ (y : Call). y.a) s))
            (through (refused_as outcome_of d next q e NoThread) (first_gone es d m next.text q (sym (ap (has_letter run_letters) s) ∙ h)));
        no_stranger = λ q e h p.
            let s = (requests_exactly next q).0 e in
            never_one es d m next.text q (sym (ap (has_letter edit_letters) s) ∙ h) ((refused_as outcome_of d next q e UnknownUser).0 p);
        give = λ a b c e. through (refused_as outcome_of d next _ e NotOwner) (give_six es d m next.text a b c);
        take = λ a b c e. through (refused_as outcome_of d next _ e NotOwner) (take_six es d m next.text a b c);
        lock = λ a b c e. through (refused_as outcome_of d next _ e NotOwner) (lock_six es d m next.text a b c);
        drop = λ a b e. through (refused_as outcome_of d next _ e NotOwner) (drop_six es d m next.text a b);
        segment_made = λ a b e. through ((refusing outcome_of d next).accepted _ e) (new_free es d m next.text a b);
        key_made = λ a e. through ((refusing outcome_of d next).accepted _ e) (key_free es d m next.text a);
        key_given = λ a b c e. through ((refusing outcome_of d next).accepted _ e) (give_free es d m next.text a b c);
        key_taken = λ a b c e. through ((refusing outcome_of d next).accepted _ e) (take_free es d m next.text a b c);
        lock_dropped = λ a b e. through ((refusing outcome_of d next).accepted _ e) (drop_free es d m next.text a b);
        stranger = λ a e. through (refused_as outcome_of d next _ e UnknownUser) (start_one es d m next.text a);
        users = λ n.
            ap (λ (h : History). map_option (λ t. t.user) (h.threads n)) (history_one (event next r) empty_history es)
            ∙ users_after (history es) next r formed n;
        owners = λ s.
            ap (λ (h : History). map_option (λ e. e.owner) (h.segments s)) (history_one (event next r) empty_history es)
            ∙ owners_after (history es) next r formed s
            ∙ same_where (owner_in es s) (counts letters.N (event next r) && eqb s (answer_value r)) (λ t. edited letters.N refl (and_left _ _ t));
        makers =
            makers_one (event next r) empty_history es
            ∙ ap (λ (ms : List ℕ). makers_of es ++ ms) (made_by_lem (counts letters.K (event next r)) (edited letters.K refl));
      }

pub editing : Editing
editing =
    record {
      edits = edits_after;
      alike = λ xs next q a e h same.
          let m = mirror.state xs in
          call_alike (reached outcome_of xs) next q a e h (m.editors a ∙ same ∙ sym (m.editors next.a));
    }
