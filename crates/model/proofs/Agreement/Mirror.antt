-- What the table asks of the state is read off the agreement of model and history; the makers are counted along the
-- list of calls, and a segment's own key is what the arrays say it is.
use Rattle.std.specs.Prelude.{Ok, Option, None, Some}
use mathlib.Core.Path.{◌≡◌, refl, sym, ap, ◌∙◌}
use mathlib.Core.Bool.{true, not, cond}
use mathlib.Core.List.{List, [], ◌∷◌, ◌++◌, map, append-nil, append_assoc, Memᴰ}
use Prim.Native.Nat.{ℕ}
use native.Mathlib.Omega.{arith}
use lib.Dec.{eqb}
use lib.ListN.{length}
use borrow.Author.Tests.{lt-ltb, ltb-true}
use Rattle.product.specs.declared.literal.Key.{Key}
use Rattle.product.specs.declared.literal.Key.TheVariants.{Segment as SegmentKey}
use Rattle.product.specs.Sum.{Sum}
use Rattle.formula.specs.declared.text.Issued.{Issued}
use Rattle.formula.specs.Outcome.{accepted, outcome_of}
use Rattle.formula.specs.Meaning.{Meaning, text_holds}
use Rattle.formula.specs.Compiler.{Compiler, Laws, everything}
use Rattle.formula.proofs.Opening.{laws, opening_law, holds_spelt}
use Rattle.call.specs.declared.request.Request.{Request}
use Rattle.call.specs.Calls.{Decoded}
use Rattle.call.specs.Calls.{Call, decoded}
use Rattle.call.specs.Letters as letters
use Rattle.call.specs.Requests.{call_of}
use Rattle.base.specs.Conditions.{first_refusal}
use Rattle.call.proofs.Requests.{requests_exactly}
use Rattle.model.specs.declared.answer.Refusal.{Refusal}
use Rattle.base.specs.Lists.{is_some, map_option, keep, tail_of}
use Rattle.model.specs.State.{State, empty_state, Segment, user_of, issued, blank_segment, segment_at, is_segment, is_lock, lock_segment}
use Rattle.model.specs.Refusals.{conditions}
use Rattle.model.specs.Effects.{update, answer}
use Rattle.model.specs.Model.{judged, step_decoded, step}
use Rattle.model.specs.Cells.{Cells, Sized, row_at, table_at, key_in, has_key, state_of}
use Rattle.model.specs.History.{History, Event, Entry, Lock, event, empty_history, editor_in, advance, history, counts, accepted_of, maker_in, makers_from, issued_by}
use Rattle.model.specs.Replay.{state_after, events_of}
use Rattle.model.specs.Theorems.Mirror.{MirrorByLaws, Spelt, Mirror}
use Rattle.base.proofs.Lists.{case_bool, same_truth, eqb_self, any_passes, at_lt, is_some_some}
use Rattle.call.proofs.EveryRequest.{every_request}
use Rattle.model.proofs.Refinement.Literals.{key_in_segment}
use Rattle.model.proofs.Agreement.Segments.{entry_of, entry_low, entry_is}
use Rattle.model.proofs.Agreement.Locks.{found}
use Rattle.model.proofs.Agreement.ReadLocks.{lock_homed, lock_stands, lock_made_lem}
use Rattle.model.proofs.Agreement.Agrees.{Agrees, empty_agrees}
use Rattle.model.proofs.Agreement.KeptAgreement.{editors_agree}
use Rattle.model.proofs.Agreement.EveryCall.{agree, step_agrees, found_as, thread_as}
use Rattle.model.proofs.Refinement.SegmentTables.{kept_list}
use Rattle.model.proofs.Refinement.ServedCalls.{segment_at_lem}
use Rattle.model.proofs.Refinement.SegmentStores.{segment_shaped, handed}
use Rattle.model.proofs.Refinement.EveryCall.{follows}

-- ---- threads, segments and locks

module _ (compile : Compiler) (es : List Event) (d : State) (c : Agrees compile d (history es) (λ k. accepted_of k es)) where
  issued_as : issued d ≡ issued_by es
  issued_as = λ i. record { users = c.counts.0 i; threads = c.counts.1 i; segments = c.counts.2 i; defined = c.counts.3 i }

  segment_as : (s : ℕ) → is_segment d s ≡ is_some ((history es).segments s)
  segment_as s =
      same_truth (is_segment d s) (is_some ((history es).segments s))
      (λ t. ap is_some (c.segments s) ∙ ap (λ o. is_some (map_option entry_of o)) (at_lt d.segments s blank_segment (ltb-true s (length d.segments) t)))
      (λ t. let (e, h) = is_some_some ((history es).segments s) t in
      lt-ltb s (length d.segments) (entry_low d.segments (history es).segments c.segments s e h))

  entry_as : (s : ℕ) (e : Entry) → (history es).segments s ≡ Some e → entry_of (segment_at d s) ≡ e
  entry_as s e h = entry_is d.segments (history es).segments c.segments s e h

  home_as : (l : Lock) → Memᴰ l (history es).locks → lock_segment d l.number ≡ l.segment
  home_as l m =
      let there : is_lock d l.number ≡ true =
      lock_stands compile d.segments d.lock_numbers (history es).locks c.locks l.number
      ∙ any_passes (λ (k : Lock). eqb k.number l.number) l (history es).locks m (eqb_self l.number) in
      sym (found compile d.segments d.lock_numbers (history es).locks c.locks l.number there)
      ∙ lock_homed compile d.segments d.lock_numbers (history es).locks c.locks l m

-- ---- makers

module _ (compile : Compiler) (d : State) (h : History) (same : (a : ℕ) → editor_in h a ≡ user_of d a) where
  -- the makers after an event: one more exactly where it is an accepted K
  abbrev makers_with : Event → List ℕ
  makers_with e = cond (counts letters.K e) (d.makers ++ user_of d e.call.a ∷ []) d.makers

  makers_added : (e : Event) → makers_with e ≡ d.makers ++ maker_in h e
  makers_added e =
      case_bool (counts letters.K e)
      (λ t. simp t (ap (λ (u : ℕ). d.makers ++ u ∷ []) (sym (same e.call.a))))
      (λ t. simp t (sym (append-nil d.makers)))

  accepted_makers : (text : List ℕ) (n : ℕ) (q : Request) → (update compile d q text).makers ≡ d.makers ++ maker_in h (event (call_of q text) (Ok n))
  unfolding update
  accepted_makers text n q =
      every_request (λ r. (update compile d r text).makers) (λ r. makers_with (event (call_of r text) (Ok n))) (λ a b c. refl) q
      ∙ makers_added (event (call_of q text) (Ok n))

step_makers : (compile : Compiler) (d : State) (h : History) → ((a : ℕ) → editor_in h a ≡ user_of d a) → (x : Call)
    → (step compile d x).state.makers ≡ d.makers ++ maker_in h (event x (step compile d x).answer)
unfolding step
step_makers compile d h same x = by_request (decoded x) refl
  where
    by_refusal : (q : Request) → x ≡ call_of q x.text → (o : Option Refusal)
        → (judged compile d q x.text o).state.makers ≡ d.makers ++ maker_in h (event x (judged compile d q x.text o).answer)
    by_refusal q e None =
        let n = answer compile d q x.text in
        accepted_makers compile d h same x.text n q ∙ ap (λ (y : Call). d.makers ++ maker_in h (event y (Ok n))) (sym e)
    by_refusal q e (Some r) = sym (append-nil d.makers)

    by_request : (k : Decoded) → decoded x ≡ k
        → (step_decoded compile d k x.text).state.makers ≡ d.makers ++ maker_in h (event x (step_decoded compile d k x.text).answer)
    by_request None e = sym (append-nil d.makers)
    by_request (Some q) e = by_refusal q ((requests_exactly x q).0 e) (first_refusal (conditions compile d q x.text))

module _ (compile : Compiler) (meaning : Meaning) (law : Laws compile meaning) where
  makers_after : (xs : List Call) (d : State) (h : History) (count : ℕ → ℕ) → Agrees compile d h count
      → (state_after compile d xs).makers ≡ d.makers ++ makers_from h (events_of compile d xs)
  makers_after [] d h count c = sym (append-nil d.makers)
  makers_after (x ∷ xs) d h count c =
      let e = event x (step compile d x).answer in
      let es = events_of compile (step compile d x).state xs in
      makers_after xs (step compile d x).state (advance h e) _ (step_agrees compile meaning law d h count x c)
      ∙ ap (λ (m : List ℕ). m ++ makers_from (advance h e) es) (step_makers compile d h (editors_agree compile d h count c) x)
      ∙ append_assoc d.makers (maker_in h e) (makers_from (advance h e) es)

-- ---- a segment's own key

own_key : (d : Cells) → Sized d → (s : ℕ) → is_segment (state_of d) s ≡ true → (rest : List Key) × ((segment_at (state_of d) s).keys ≡ SegmentKey s ∷ rest)
unfolding state_of
own_key d c s h =
    let lt = handed d s (ap not h) in
    let g = table_at d.segments s in
    let shape = segment_shaped d c s lt in
    let rest = map key_in (keep has_key (tail_of (row_at g 1))) in (
      rest,
      ap (λ (x : Segment). x.keys) (segment_at_lem d s lt)
          ∙ ap (map key_in) (kept_list s g (omega arith) (shape.cells 1 (omega arith)))
          ∙ ap (λ (k : Key). k ∷ rest) (key_in_segment s (omega arith)),
    )

-- ---- the whole

pub mirror_by_laws : MirrorByLaws
mirror_by_laws compile meaning law xs =
    let f = follows compile meaning law xs in
    let c = agree compile meaning law xs in
    let d = state_after compile empty_state xs in
    let es = events_of compile empty_state xs in
    let owned : (s : ℕ) → is_segment d s ≡ true → (rest : List Key) × ((segment_at d s).keys ≡ SegmentKey s ∷ rest) =
    rw f.state at (own_key _ f.sized) in
    let count : ℕ → ℕ = λ k. accepted_of k es in
    let entry = entry_as compile es d c in
    rw (f.events, f.state)
    (record {
      handed_out = issued_as compile es d c;
      lock_numbers = c.counts.4;
      makers = makers_after compile meaning law xs empty_state empty_history _ (empty_agrees compile);
      threads = c.counts.5;
      live = λ n. ap is_some (found_as compile d (history es) count c n);
      thread = thread_as compile d (history es) count c;
      editors = λ n. ap (map_option (λ t. t.user)) (found_as compile d (history es) count c n);
      segment = segment_as compile es d c;
      owner = λ s e h. ap (λ (x : Entry). x.owner) (entry s e h);
      kind = λ s e h. ap (λ (x : Entry). x.kind) (entry s e h);
      keys = λ s e h. ap (λ (x : Entry). x.keys) (entry s e h);
      own = λ s e h.
          let (rest, q) = owned s (segment_as compile es d c s ∙ ap is_some h) in
          (rest, sym (ap (λ (x : Entry). x.keys) (entry s e h)) ∙ q);
      lock = lock_stands compile d.segments d.lock_numbers (history es).locks c.locks;
      segment_for = home_as compile es d c;
    })

spelt : (i : Issued) (s : List ℕ) (ps : Sum) → outcome_of i s ≡ accepted ps → Spelt s
spelt i s ps e = let o = opening_law i s ps e in record { issue = i; tree = o.tree; text = o.text; meaning = holds_spelt i s o.tree o.text }

pub mirror : Mirror
mirror =
    record {
      state = mirror_by_laws outcome_of text_holds laws;
      formula = λ xs l m.
          let f = follows outcome_of text_holds laws xs in
          let d = state_after outcome_of empty_state xs in
          let es = events_of outcome_of empty_state xs in
          let k : Memᴰ l (history es).locks = rw f.events at m in
          spelt everything l.text _ (lock_made_lem outcome_of text_holds laws d.segments d.lock_numbers (history es).locks (agree outcome_of text_holds laws xs).locks l k);
    }
