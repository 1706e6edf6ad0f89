-- The trials, by computing. Each long list is a declaration of its own, so that the prover never holds two of them.
use Rattle.std.specs.Prelude.{None, Some}
use mathlib.Core.Path.{◌≡◌, refl, ap, ap₂, ◌∙◌}
use mathlib.Core.List.{List, [], ◌∷◌, ◌++◌, map}
use lib.ListN.{get_or, replicate}
use Rattle.base.specs.Lists.{tail_of}
use Rattle.product.specs.declared.literal.Key.TheVariants.{Defined}
use Rattle.formula.specs.Outcome.{outcome_of}
use Rattle.model.specs.State.{State, empty_state, fresh_segment, fresh_thread, free, taken}
use Rattle.model.specs.Model.{step}
use Rattle.model.specs.History.{makers_of}
use Rattle.model.specs.Replay.{state_after, events, events_of}
use Rattle.model.specs.Notation.{Expected, calls_of, got, Happens}
use Rattle.model.specs.Theorems.Editing.{user_in, owner_in}
use Rattle.model.specs.Theorems.SameGrants.{answer_before, step_before}
use Rattle.model.specs.Theorems.Trials.{refusals, identity, editors, in_progress, withdrawal, revoked, hands_then, opened, users, segments, live_threads, key_ring, keys_given, listed, several_locks, locks_of_products, checked_before, frames, Trials}
use Rattle.model.proofs.Unfoldings.{computing}
use Rattle.model.proofs.Refinement.EveryCall.{refinement}

table_happens : Happens refusals
unfolding computing
table_happens = refl

identity_happens_lem : Happens identity
unfolding computing
identity_happens_lem = refl

editors_happen_lem : Happens editors
unfolding computing
editors_happen_lem = refl

editors_users_lem : map (user_in (events outcome_of (calls_of editors))) (0 ∷ 1 ∷ 2 ∷ 3 ∷ 4 ∷ 5 ∷ []) ≡ Some 1 ∷ None ∷ Some 0 ∷ Some 3 ∷ Some 2 ∷ Some 3 ∷ []
unfolding computing
editors_users_lem = refl

editors_owners_lem : map (owner_in (events outcome_of (calls_of editors))) (0 ∷ 1 ∷ 2 ∷ 3 ∷ []) ≡ Some 0 ∷ Some 3 ∷ Some 2 ∷ None ∷ []
unfolding computing
editors_owners_lem = refl

editors_makers_lem : makers_of (events outcome_of (calls_of editors)) ≡ 0 ∷ 3 ∷ []
unfolding computing
editors_makers_lem = refl

revoked_happens_lem : Happens revoked
unfolding computing
revoked_happens_lem = refl

handed_before_lem : map (hands_then in_progress) (0 ∷ 1 ∷ 2 ∷ [])
    ≡ Some (opened 0 (Defined 0 ∷ Defined 1 ∷ []) ∷ [])
    ∷ Some (opened 0 (Defined 0 ∷ Defined 1 ∷ []) ∷ opened 0 (Defined 0 ∷ Defined 1 ∷ []) ∷ [])
    ∷ Some (opened 1 (Defined 0 ∷ []) ∷ opened 0 (Defined 0 ∷ Defined 1 ∷ []) ∷ [])
    ∷ []
unfolding computing
handed_before_lem = refl

handed_after_lem : map (hands_then (in_progress ++ withdrawal)) (0 ∷ 1 ∷ 2 ∷ [])
    ≡ Some (opened 0 (Defined 1 ∷ []) ∷ [])
    ∷ Some (opened 0 (Defined 1 ∷ []) ∷ opened 0 (Defined 1 ∷ []) ∷ [])
    ∷ Some (opened 1 (Defined 0 ∷ []) ∷ opened 0 (Defined 1 ∷ []) ∷ [])
    ∷ []
unfolding computing
handed_after_lem = refl

handed_last_lem : map (hands_then revoked) (0 ∷ 1 ∷ 2 ∷ [])
    ≡ Some (opened 0 (Defined 1 ∷ []) ∷ [])
    ∷ None
    ∷ Some (opened 0 (Defined 1 ∷ []) ∷ [])
    ∷ []
unfolding computing
handed_last_lem = refl

users_happen_lem : Happens users
unfolding computing
users_happen_lem = refl

segments_happen_lem : Happens segments
unfolding computing
segments_happen_lem = refl

threads_happen_lem : Happens live_threads
unfolding computing
threads_happen_lem = refl

-- a list in two parts, the second from a state that the first comes to
in_two : (xs ys : List Expected) (d d' : State) → state_after outcome_of d (calls_of xs) ≡ d' → map got (events_of outcome_of d (calls_of xs)) ≡ xs
    → map got (events_of outcome_of d' (calls_of ys)) ≡ ys → map got (events_of outcome_of d (calls_of (xs ++ ys))) ≡ xs ++ ys
in_two [] ys d d' s p q = ap (λ (e : State). map got (events_of outcome_of e (calls_of ys))) s ∙ q
in_two (x ∷ xs) ys d d' s p q =
    ap₂ (λ (e : Expected) (es : List Expected). e ∷ es) (ap (λ (es : List Expected). get_or es 0 x) p)
    (in_two xs ys (step outcome_of d x.call).state d' s (ap tail_of p) q)

-- the state after the first part of the list, so that the second needn't look through the first
abbrev ringed : State
ringed =
    record {
      users = 1;
      thread_numbers = 1;
      lock_numbers = 0;
      makers = replicate 8 0;
      segments = fresh_segment 0 0 0 ∷ [];
      places = taken 0 (fresh_thread 0) ∷ replicate 63 free;
    }

ring_is : state_after outcome_of empty_state (calls_of key_ring) ≡ ringed
unfolding computing
ring_is = refl

ring_happens : map got (events_of outcome_of empty_state (calls_of key_ring)) ≡ key_ring
unfolding computing
ring_happens = refl

given_happens : map got (events_of outcome_of ringed (calls_of keys_given)) ≡ keys_given
unfolding computing
given_happens = refl

listed_happens_lem : Happens listed
listed_happens_lem =
    ap (map got) (refinement.list (calls_of listed)).events ∙ in_two key_ring keys_given empty_state ringed ring_is ring_happens given_happens

several_happen_lem : Happens several_locks
unfolding computing
several_happen_lem = refl

products_happen_lem : Happens locks_of_products
unfolding computing
products_happen_lem = refl

several_before_lem : checked_before several_locks
    ≡ (0, 0) ∷ (0, 0) ∷ (0, 0) ∷ (0, 0) ∷ (0, 0) ∷ (0, 0) ∷ (0, 0)
    ∷ (15, 0) ∷ (0, 0) ∷ (0, 5) ∷ (14, 6) ∷ (0, 5) ∷ (0, 8) ∷ (0, 8) ∷ (0, 8) ∷ []
unfolding computing answer_before step_before
several_before_lem = refl

frames_happen_lem : Happens frames
unfolding computing
frames_happen_lem = refl

pub trials : Trials
unfolding computing
trials =
    record {
      table = table_happens;
      every_letter = refl;
      numbered = refl;
      identity_happens = identity_happens_lem;
      editors_happen = editors_happen_lem;
      editors_users = editors_users_lem;
      editors_owners = editors_owners_lem;
      editors_makers = editors_makers_lem;
      revoked_happens = revoked_happens_lem;
      handed_before = handed_before_lem;
      handed_after = handed_after_lem;
      handed_last = handed_last_lem;
      several_happen = several_happen_lem;
      products_happen = products_happen_lem;
      several_before = several_before_lem;
      users_happen = users_happen_lem;
      segments_happen = segments_happen_lem;
      threads_happen = threads_happen_lem;
      listed_happens = listed_happens_lem;
      frames_happen = frames_happen_lem;
      last_thread = refl;
      no_thread = refl;
      last_lock = refl;
      no_lock = refl;
      last_key = refl;
      no_key = refl;
    }
