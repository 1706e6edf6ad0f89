-- What a still open call hands over is its list less what was taken since: along the list of events, with the open
-- calls of one thread beside the history. An event that is no T takes nothing from an open call, and a T strikes in the
-- history what it takes.
use Rattle.std.specs.Prelude.{Ok, Err, Option, None, Some}
use mathlib.Core.Path.{◌≡◌, refl, sym, ap, subst, ◌∙◌}
use mathlib.Core.Bool.{Bool, true, false, ◌&&◌, ◌||◌, not, cond, true≢false}
use mathlib.Core.List.{List, [], ◌∷◌, ◌++◌, map, map-append, append-nil}
use Prim.Native.Nat.{ℕ}
use lib.Dec.{eqb}
use Rattle.product.specs.declared.literal.Key.{Key}
use Rattle.product.specs.declared.literal.Key.TheVariants.{Defined}
use Rattle.call.specs.declared.request.Request.{Request}
use Rattle.call.specs.declared.request.Request.TheVariants as request
use Rattle.call.specs.Calls.{Decoded}
use Rattle.call.specs.Calls.{Call, decoded}
use Rattle.call.specs.Requests.{call_of}
use Rattle.call.specs.Letters as letters
use Rattle.call.proofs.Requests.{requests_exactly}
use Rattle.base.specs.Lists.{keep, map_option, tail_of}
use Rattle.base.proofs.Lists.{All, case_bool, some_inj, some≢none, any_append, keep_all, keep_append, keep_same, map_map, map_same, all_members}
use Rattle.model.specs.Answers.{Answer}
use Rattle.model.specs.Answers.{is_accepted}
use Rattle.model.specs.Threads.{Frame, Thread, same_key, is_in}
use Rattle.model.specs.History.{History, Event, event, empty_history, on_frames, strike_key, strike_from, list_of, note, note_answer, advance, history_from, history, counts}
use Rattle.model.specs.Theorems.Revocation.{OpenCall, taken_from, handed_over, and_then, open_next, open_from, open_calls}
use Rattle.model.proofs.Keys.{same_back}
use Rattle.model.proofs.Agreement.EditsWritten.{history_one}

-- ---- one event since

abbrev is_take : Event → ℕ → Bool
is_take e s = counts letters.T e && eqb s e.call.b

taken_one : (s : ℕ) (es : List Event) (e : Event) → taken_from s (es ++ e ∷ []) ≡ taken_from s es ++ cond (is_take e s) (Defined e.call.c ∷ []) []
taken_one s es e =
    ap (map (λ x. Defined x.call.c)) (keep_append (λ x. is_take x s) es (e ∷ []))
    ∙ map-append (λ x. Defined x.call.c) (keep (λ x. is_take x s) es) (keep (λ x. is_take x s) (e ∷ []))
    ∙ ap (λ (ks : List Key). taken_from s es ++ ks) (case_bool (is_take e s) (λ t. simp t) (λ t. simp t))

keep_twice : (p q : Key → Bool) (xs : List Key) → keep (λ x. p x && q x) xs ≡ keep q (keep p xs)
keep_twice p q [] = refl
keep_twice p q (x ∷ xs) =
    case_bool (p x) (λ e. case_bool (q x) (λ f. simp (e, f, keep_twice p q xs)) (λ f. simp (e, f, keep_twice p q xs))) (λ e. simp (e, keep_twice p q xs))

not_both_lem : (a b : Bool) → not (a || (b || false)) ≡ (not a && not b)
not_both_lem true b = refl
not_both_lem false true = refl
not_both_lem false false = refl

-- one key more that was taken
less_one : (c : ℕ) (taken keys : List Key)
    → keep (λ k. not (is_in k (taken ++ Defined c ∷ []))) keys ≡ strike_key c (keep (λ k. not (is_in k taken)) keys)
less_one c taken keys =
    keep_same _ _
    (λ k. ap not (any_append (same_key k) taken (Defined c ∷ [])) ∙ not_both_lem (is_in k taken) (same_key k (Defined c)) ∙ ap (λ (b : Bool). not (is_in k taken) && not b) (same_back k (Defined c)))
    keys
    ∙ keep_twice (λ k. not (is_in k taken)) (λ k. not (same_key (Defined c) k)) keys

module _ (e : Event) (o : OpenCall) where
  abbrev s : ℕ
  s = o.segment

  abbrev list : List Key
  list = list_of (history o.before) s

  -- what is handed over when so much was taken
  abbrev less : List Key → Frame
  less taken = record { segment = s; keys = keep (λ k. not (is_in k taken)) list }

  not_taken : is_take e s ≡ false → handed_over (and_then e o) ≡ handed_over o
  not_taken f =
      let same : taken_from s (o.since ++ e ∷ []) ≡ taken_from s o.since = taken_one s o.since e ∙ simp f (append-nil (taken_from s o.since)) in
      ap less same

  is_struck_lem : counts letters.T e ≡ true → handed_over (and_then e o) ≡ strike_from e.call.b e.call.c (handed_over o)
  is_struck_lem t =
      case_bool (eqb s e.call.b)
      (λ q. let take : is_take e s ≡ true = simp (t, q) in
      let more : taken_from s (o.since ++ e ∷ []) ≡ taken_from s o.since ++ Defined e.call.c ∷ [] = taken_one s o.since e ∙ simp take in
      ap less more
      ∙ (λ i. record { segment = s; keys = less_one e.call.c (taken_from s o.since) list i }) ∙ sym (simp q))
      (λ q. let take : is_take e s ≡ false = simp (t, q) in not_taken take ∙ sym (simp q))

module _ (e : Event) (os : List OpenCall) where
  still_same : counts letters.T e ≡ false → map handed_over (map (and_then e) os) ≡ map handed_over os
  still_same f =
      map_map handed_over (and_then e) os ∙ map_same _ _ (λ o. not_taken e o (let g : is_take e o.segment ≡ false = simp f in g)) os

  still_struck : counts letters.T e ≡ true → map handed_over (map (and_then e) os) ≡ map (strike_from e.call.b e.call.c) (map handed_over os)
  still_struck t =
      map_map handed_over (and_then e) os ∙ map_same _ _ (λ o. is_struck_lem e o t) os ∙ sym (map_map (strike_from e.call.b e.call.c) handed_over os)

-- a call that is opened hands its list over whole
opened : (es : List Event) (b : ℕ) → handed_over (record { before = es; segment = b; since = [] }) ≡ record { segment = b; keys = list_of (history es) b }
opened es b =
    ap (λ (ks : List Key). record { segment = b; keys = ks })
    (keep_all (λ k. true) (list_of (history es) b) (all_members _ (list_of (history es) b) (λ k m. refl)))

-- ---- a thread's frames

abbrev pub frames_in : History → ℕ → Option (List Frame)
frames_in h n = map_option (λ t. t.frames) (h.threads n)

frames_on : (f : List Frame → List Frame) (o : Option Thread) → map_option (λ t. t.frames) (map_option (on_frames f) o) ≡ map_option f (map_option (λ t. t.frames) o)
frames_on f None = refl
frames_on f (Some t) = refl

map_some : (f : List Frame → List Frame) (o : Option (List Frame)) (fs : List Frame) → map_option f o ≡ Some fs
    → (gs : List Frame) × (o ≡ Some gs) × (fs ≡ f gs)
map_some f None fs e = absurd (some≢none (sym e))
map_some f (Some gs) fs e = (gs, refl, some_inj (sym e))

tail_map : (os : List OpenCall) → map handed_over (tail_of os) ≡ tail_of (map handed_over os)
tail_map [] = refl
tail_map (o ∷ os) = refl

module _ (n : ℕ) where
  -- the frames of thread n, if it is live, are what these open calls hand over
  abbrev Handed : History → List OpenCall → Type 0
  Handed h os = (fs : List Frame) → frames_in h n ≡ Some fs → fs ≡ map handed_over os

  module _ (es : List Event) (os : List OpenCall) (inv : Handed (history es) os) (k : ℕ) where
    abbrev h : History
    h = history es

    abbrev Next : Request → List ℕ → Type 0
    Next q text = Handed (note h q text k) (open_next n es (event (call_of q text) (Ok k)) os)

    -- a request that changes no frame
    idle : (e : Event) → counts letters.T e ≡ false → Handed h (map (and_then e) os)
    idle e f fs p = inv fs p ∙ sym (still_same e os f)

    -- a change of the frames that the thread has
    changed : (f : List Frame → List Frame) (fs : List Frame) → map_option (λ t. t.frames) (map_option (on_frames f) (h.threads n)) ≡ Some fs
        → fs ≡ f (map handed_over os)
    changed f fs p =
        let (gs, q, r) = map_some f (frames_in h n) fs (sym (frames_on f (h.threads n)) ∙ p) in
        r ∙ ap f (inv gs q)

    next_request : (q : Request) (text : List ℕ) → Next q text
    unfolding note
    next_request request.NewUser text fs p = idle (event (call_of request.NewUser text) (Ok k)) refl fs p
    next_request (request.StartThread a) text fs p =
        let e = event (call_of (request.StartThread a) text) (Ok k) in
        case_bool (eqb n k)
        (λ t. simp t (some_inj (sym (rw t at p))))
        (λ t. simp t (idle e refl fs (rw t at p)))
    next_request (request.EndThread a) text fs p =
        let e = event (call_of (request.EndThread a) text) (Ok k) in
        case_bool (eqb n a)
        (λ t. absurd (some≢none (sym (rw t at p))))
        (λ t. simp t (idle e refl fs (rw t at p)))
    next_request (request.NewSegment a b) text fs p = idle (event (call_of (request.NewSegment a b) text) (Ok k)) refl fs p
    next_request (request.NewKey a) text fs p = idle (event (call_of (request.NewKey a) text) (Ok k)) refl fs p
    next_request (request.GiveKey a b c) text fs p = idle (event (call_of (request.GiveKey a b c) text) (Ok k)) refl fs p
    next_request (request.TakeKey a b c) text fs p =
        let e = event (call_of (request.TakeKey a b c) text) (Ok k) in
        changed (map (strike_from b c)) fs p ∙ sym (still_struck e os refl)
    next_request (request.AddLock a b c) text fs p = idle (event (call_of (request.AddLock a b c) text) (Ok k)) refl fs p
    next_request (request.DropLock a b) text fs p = idle (event (call_of (request.DropLock a b) text) (Ok k)) refl fs p
    next_request (request.CallSegment a b) text fs p =
        let e = event (call_of (request.CallSegment a b) text) (Ok k) in
        case_bool (eqb n a)
        (λ t. simp t
        (changed (λ gs. record { segment = b; keys = list_of h b } ∷ gs) fs (rw t at p)
        ∙ ap (λ (f : Frame). f ∷ map handed_over os) (sym (opened es b))
        ∙ ap (λ (gs : List Frame). handed_over (record { before = es; segment = b; since = [] }) ∷ gs) (sym (still_same e os refl))))
        (λ t. simp t (idle e refl fs (rw t at p)))
    next_request (request.ReturnCall a) text fs p =
        let e = event (call_of (request.ReturnCall a) text) (Ok k) in
        case_bool (eqb n a)
        (λ t. simp t (changed tail_of fs (rw t at p) ∙ ap tail_of (sym (still_same e os refl)) ∙ sym (tail_map (map (and_then e) os))))
        (λ t. simp t (idle e refl fs (rw t at p)))
    next_request (request.Access a b c) text fs p = idle (event (call_of (request.Access a b c) text) (Ok k)) refl fs p

  -- a call that is accepted only if it is well formed
  abbrev pub Formed : Event → Type 0
  Formed e = decoded e.call ≡ None → is_accepted e.answer ≡ false

  module _ (es : List Event) (os : List OpenCall) (inv : Handed (history es) os) where
    next_event : (e : Event) → Formed e → Handed (advance (history es) e) (open_next n es e os)
    unfolding advance
    next_event e formed = by (decoded e.call) refl e.answer refl
      where
        x : Call
        x = e.call

        refused : (y : Answer) → is_accepted y ≡ false → Handed (history es) (open_next n es (event e.call y) os)
        refused y f = simp f (idle es os inv 0 (event e.call y) (simp f))

        by : (d : Decoded) → decoded e.call ≡ d → (y : Answer) → e.answer ≡ y
            → Handed (note_answer (history es) d e.call.text y) (open_next n es (event e.call y) os)
        by None q (Ok k) p = absurd (true≢false (sym (ap is_accepted p) ∙ formed q))
        by None q (Err z) p = refused (Err z) refl
        by (Some r) q (Ok k) p =
            subst (λ (c : Call). Handed (note (history es) r e.call.text k) (open_next n es (event c (Ok k)) os)) (sym ((requests_exactly e.call r).0 q))
            (next_request es os inv k r e.call.text)
        by (Some r) q (Err z) p = refused (Err z) refl

  handed_from : (rest es : List Event) (os : List OpenCall) → Handed (history es) os → All Formed rest
      → Handed (history_from (history es) rest) (open_from n es os rest)
  handed_from [] es os inv f = inv
  handed_from (e ∷ rest) es os inv f =
      subst (λ (g : History). Handed (history_from g rest) (open_from n (es ++ e ∷ []) (open_next n es e os) rest)) (history_one e empty_history es)
      (handed_from rest (es ++ e ∷ []) (open_next n es e os)
      (subst (λ (g : History). Handed g (open_next n es e os)) (sym (history_one e empty_history es)) (next_event es os inv e f.0)) f.1)

  pub handed_over_lem : (es : List Event) → All Formed es → Handed (history es) (open_calls n es)
  handed_over_lem es f = handed_from es [] [] (λ fs p. absurd (some≢none (sym p))) f
