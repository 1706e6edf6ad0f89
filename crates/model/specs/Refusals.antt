-- Document 01, 'Operations and the check' and the table of refusals: the check, and for each of the twelve calls the
-- list of its refusals, in the table's order. The compiler of formula texts is a parameter.
use Rattle.std.specs.Prelude.{Bool, true, false, ◌&&◌, ◌||◌, not, List, [], ◌∷◌, ℕ, suc, ◌+◌, eqb, ltb, length, Option}
use Rattle.product.specs.declared.literal.Key.TheVariants.{Defined}
use Rattle.product.specs.Product.{opens}
use Rattle.formula.specs.Outcome.{Outcome, accepted, malformed, too_wide, unsatisfiable, sum_in}
use Rattle.formula.specs.Compiler.{Compiler}
use Rattle.call.specs.declared.request.Request.{Request}
use Rattle.call.specs.declared.request.Request.TheVariants as request
use Rattle.base.specs.Conditions.{Condition, when}
use Rattle.model.specs.declared.answer.Refusal.{Refusal}
use Rattle.model.specs.declared.answer.Refusal.TheVariants.{UnknownUser, NoThread, NoSegment, NoKey, NoLock, NotOwner, Unfit, AlreadyPresent, NotPresent, Full, Malformed, TooWide, Unsatisfiable, Denied, NotGranted}
use Rattle.base.specs.Lists.{keep, first, greatest, is_some, or_default}
use Rattle.model.specs.Limits.{most_users, most_threads, most_segments, most_defined, most_listed, most_standing, most_frames, most_numbers, passes}
use Rattle.model.specs.Operations.{execute, denies, grants, sheet, takes, is_access, takes_set}
use Rattle.model.specs.Threads.{is_in, KeySet, key_set}
use Rattle.model.specs.State.{LockProduct, State, is_user, is_segment, is_key, segment_at, editor, user_of, owns, made, issued, live_in, is_live, thread_at, is_lock, lock_segment}

-- ---- the check

abbrev pub opens_for : (ℕ → ℕ → Bool) → ℕ → KeySet → LockProduct → Bool
opens_for stands n keys r = stands r.operations n && opens keys r.product

-- the key set of thread a
abbrev pub thread_keys : State → ℕ → KeySet
thread_keys d a = key_set a (thread_at d a)

-- The first product that opens for thread a, of the locks on segment b that stand for operation n, as deny locks or as
-- grant locks. It is the lowest such lock's: of deny locks that is `denied` of `TightestLock`, of grant locks `before`
-- of `SameGrants`. Whether a grant lock has one decides what is granted.
unfoldable pub opening_product : State → (ℕ → ℕ → Bool) → ℕ → ℕ → ℕ → Option LockProduct
opening_product d stands a b n = first (opens_for stands n (thread_keys d a)) (segment_at d b).products

-- a product's signed keys, 'plain or barred'
abbrev pub literal_count : LockProduct → ℕ
literal_count r = length r.product

-- Request P6: 'The answer becomes the lock whose longest opening product has most signed keys. Equal ones go to the
-- lower lock number.' Of the products that open for thread a, of the grant locks on segment b that stand for operation
-- n, the longest, and the first of equal ones.
unfoldable pub tightest_product : State → ℕ → ℕ → ℕ → Option LockProduct
tightest_product d a b n =
    greatest literal_count (keep (opens_for grants n (thread_keys d a)) (segment_at d b).products)

abbrev pub lock_of : Option LockProduct → ℕ
lock_of o = or_default 0 (λ r. r.lock) o

-- ---- the table of refusals

abbrev pub unless : Bool → Refusal → Condition Refusal
unless b r = when (not b) r

abbrev pub is_malformed : Outcome → Bool
is_malformed (accepted ps) = false
is_malformed malformed = true
is_malformed too_wide = false
is_malformed unsatisfiable = false

abbrev pub is_too_wide : Outcome → Bool
is_too_wide (accepted ps) = false
is_too_wide malformed = false
is_too_wide too_wide = true
is_too_wide unsatisfiable = false

abbrev pub is_unsatisfiable : Outcome → Bool
is_unsatisfiable (accepted ps) = false
is_unsatisfiable malformed = false
is_unsatisfiable too_wide = false
is_unsatisfiable unsatisfiable = true

-- 'If a deny lock opens, the lowest one's number goes with refusal 14. Otherwise .. 15 if none opens.'
abbrev pub denied : State → ℕ → ℕ → ℕ → Condition Refusal
denied d a b n = let o = opening_product d denies a b n in when (is_some o) (Denied (lock_of o))

abbrev pub not_granted : State → ℕ → ℕ → ℕ → Condition Refusal
not_granted d a b n = unless (is_some (opening_product d grants a b n)) NotGranted

-- '8 products in all standing locks of a segment', '65,536 .. lock numbers': no lock of n products can be added
abbrev pub no_room : State → ℕ → ℕ → Bool
no_room d b n = passes most_standing (length (segment_at d b).products + n) || passes most_numbers (suc d.lock_numbers)

-- 'An ended or unknown run is 2 where 1 stood', in an edit
abbrev pub unknown_editor : State → ℕ → Condition Refusal
unknown_editor d a = unless (is_some (editor d a)) NoThread

module _ (compile : Compiler) where
  -- 'Checked in that order, 10 last.'
  unfoldable pub conditions : State → Request → List ℕ → List (Condition Refusal)
  conditions d request.NewUser text =
      when (passes most_users (suc d.users)) Full
      ∷ []
  conditions d (request.StartThread a) text =
      unless (is_user d a) UnknownUser
      ∷ when (passes most_threads (suc (live_in d.places)) || passes most_numbers (suc d.thread_numbers)) Full
      ∷ []
  conditions d (request.EndThread a) text =
      unless (is_live d a) NoThread
      ∷ []
  conditions d (request.NewSegment a b) text =
      unknown_editor d a
      ∷ when (ltb sheet b) Unfit
      ∷ when (passes most_segments (suc (length d.segments))) Full
      ∷ []
  conditions d (request.NewKey a) text =
      unknown_editor d a
      ∷ when (passes most_defined (suc (length d.makers))) Full
      ∷ []
  conditions d (request.GiveKey a b c) text =
      unknown_editor d a
      ∷ unless (is_segment d b) NoSegment
      ∷ unless (is_key d c) NoKey
      ∷ unless (owns d (user_of d a) b && made d (user_of d a) c) NotOwner
      ∷ when (is_in (Defined c) (segment_at d b).keys) AlreadyPresent
      ∷ when (passes most_listed (suc (length (segment_at d b).keys))) Full
      ∷ []
  conditions d (request.TakeKey a b c) text =
      unknown_editor d a
      ∷ unless (is_segment d b) NoSegment
      ∷ unless (is_key d c) NoKey
      ∷ unless (owns d (user_of d a) b) NotOwner
      ∷ unless (is_in (Defined c) (segment_at d b).keys) NotPresent
      ∷ []
  conditions d (request.AddLock a b c) text =
      unknown_editor d a
      ∷ unless (is_segment d b) NoSegment
      ∷ unless (owns d (user_of d a) b) NotOwner
      ∷ unless (takes_set (segment_at d b).kind c) Unfit
      ∷ when (is_malformed (compile (issued d) text)) Malformed
      ∷ when (is_too_wide (compile (issued d) text)) TooWide
      ∷ when (is_unsatisfiable (compile (issued d) text)) Unsatisfiable
      ∷ when (no_room d b (length (sum_in (compile (issued d) text)))) Full
      ∷ []
  conditions d (request.DropLock a b) text =
      unknown_editor d a
      ∷ unless (is_lock d b) NoLock
      ∷ unless (owns d (user_of d a) (lock_segment d b)) NotOwner
      ∷ []
  conditions d (request.CallSegment a b) text =
      unless (is_live d a) NoThread
      ∷ unless (is_segment d b) NoSegment
      ∷ unless (takes (segment_at d b).kind execute) Unfit
      ∷ denied d a b execute
      ∷ not_granted d a b execute
      ∷ when (passes most_frames (suc (length (thread_at d a).frames))) Full
      ∷ []
  conditions d (request.ReturnCall a) text =
      unless (is_live d a) NoThread
      ∷ when (eqb (length (thread_at d a).frames) 0) NotPresent
      ∷ []
  conditions d (request.Access a b c) text =
      unless (is_live d a) NoThread
      ∷ unless (is_segment d b) NoSegment
      ∷ unless (is_access c && takes (segment_at d b).kind c) Unfit
      ∷ denied d a b c
      ∷ not_granted d a b c
      ∷ []
