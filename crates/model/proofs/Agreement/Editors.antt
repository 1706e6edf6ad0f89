-- Who edits, who owns and who made what, as the history says it of a state that it mirrors.
use Rattle.std.specs.Prelude.{Option, None, Some}
use mathlib.Core.Path.{◌≡◌, refl, sym, ap, subst, ◌∙◌}
use mathlib.Core.Bool.{true, false, ◌&&◌, not}
use mathlib.Core.List.{List}
use Prim.Native.Nat.{ℕ, ◌<◌}
use lib.ListN.{length, get_or}
use borrow.Author.Tests.{ltb-true, lt-ltb, eqb-true, eq-eqb, ne_eqb}
use Rattle.base.specs.Lists.{is_some, map_option, or_default}
use Rattle.base.proofs.Lists.{clash, is_some_some}
use Rattle.base.proofs.Truth.{both_and, and_both, never_true}
use Rattle.formula.specs.declared.text.Issued.{Issued}
use Rattle.call.specs.Letters as letters
use Rattle.model.specs.Threads.{Thread}
use Rattle.model.specs.State.{State, is_segment, is_key, editor, user_of, owns, made}
use Rattle.model.specs.History.{Event, history, accepted_of}
use Rattle.model.specs.Theorems.Mirror.{Mirrors}
use Rattle.model.specs.Theorems.Editing.{AnothersSegment, AnothersSegmentOrKey, OwnSegment}

some_user : (o : Option Thread) → is_some (map_option (λ t. t.user) o) ≡ is_some o
some_user None = refl
some_user (Some t) = refl

-- what the history says of a state
module _ (es : List Event) (d : State) (m : Mirrors es d) where
  pub live_as : (a : ℕ) → is_some (editor d a) ≡ is_some ((history es).threads a)
  live_as a = ap is_some (m.editors a) ∙ some_user ((history es).threads a)

  pub user_as : (a : ℕ) (t : Thread) → (history es).threads a ≡ Some t → user_of d a ≡ t.user
  user_as a t h = ap (or_default 0 (λ u. u)) (m.editors a ∙ ap (map_option (λ r. r.user)) h)

  pub keys_as : length d.makers ≡ accepted_of letters.K es
  keys_as = ap (λ (i : Issued). i.defined) m.handed_out

  -- an owner who isn't the editor
  module _ (a s : ℕ) where
    pub anothers : is_some (editor d a) ≡ true → is_segment d s ≡ true → owns d (user_of d a) s ≡ false → AnothersSegment es a s
    anothers l g o =
        let (t, live) = is_some_some ((history es).threads a) (sym (live_as a) ∙ l) in
        let (e, segment) = is_some_some ((history es).segments s) (sym (m.segment s) ∙ g) in
        record { thread = t; live = live; entry = e; segment = segment; other = λ q. clash (eq-eqb _ _ (m.owner s e segment ∙ q ∙ sym (user_as a t live))) o }

    pub is_anothers : AnothersSegment es a s → owns d (user_of d a) s ≡ false
    is_anothers w = ne_eqb _ _ (λ q. w.other (sym (m.owner s w.entry w.segment) ∙ q ∙ user_as a w.thread w.live))

  -- or a maker who isn't
  module _ (a s k : ℕ) where
    pub anothers_key : is_some (editor d a) ≡ true → is_segment d s ≡ true → is_key d k ≡ true → (owns d (user_of d a) s && made d (user_of d a) k) ≡ false
        → AnothersSegmentOrKey es a s k
    anothers_key l g h o =
        let (t, live) = is_some_some ((history es).threads a) (sym (live_as a) ∙ l) in
        let (e, segment) = is_some_some ((history es).segments s) (sym (m.segment s) ∙ g) in
        let user = sym (user_as a t live) in
        record {
          thread = t;
          live = live;
          entry = e;
          segment = segment;
          key = subst (λ (n : ℕ). k < n) keys_as (ltb-true k (length d.makers) h);
          other = λ p q. clash (both_and (eq-eqb _ _ (m.owner s e segment ∙ p ∙ user)) (eq-eqb _ _ (ap (λ (ms : List ℕ). get_or ms k 0) m.makers ∙ q ∙ user))) o;
        }

    pub is_anothers_key : AnothersSegmentOrKey es a s k → (owns d (user_of d a) s && made d (user_of d a) k) ≡ false
    is_anothers_key w =
        let user = user_as a w.thread w.live in
        never_true _ (λ t. let (p, q) = and_both _ _ t in
        w.other (sym (m.owner s w.entry w.segment) ∙ eqb-true _ _ p ∙ user) (sym (ap (λ (ms : List ℕ). get_or ms k 0) m.makers) ∙ eqb-true _ _ q ∙ user))

  -- an owner who is
  module _ (a s : ℕ) where
    pub own : is_some (editor d a) ≡ true → is_segment d s ≡ true → owns d (user_of d a) s ≡ true → OwnSegment es a s
    own l g o =
        let (t, live) = is_some_some ((history es).threads a) (sym (live_as a) ∙ l) in
        let (e, segment) = is_some_some ((history es).segments s) (sym (m.segment s) ∙ g) in
        record { thread = t; live = live; entry = e; segment = segment; owner = sym (m.owner s e segment) ∙ eqb-true _ _ o ∙ user_as a t live }

    pub is_own_lem : OwnSegment es a s → owns d (user_of d a) s ≡ true
    is_own_lem w = eq-eqb _ _ (m.owner s w.entry w.segment ∙ w.owner ∙ sym (user_as a w.thread w.live))

  pub segments_as : length d.segments ≡ accepted_of letters.N es
  segments_as = ap (λ (i : Issued). i.segments) m.handed_out

  -- conditions that don't hold
  pub passes_live : (a : ℕ) (t : Thread) → (history es).threads a ≡ Some t → not (is_some (editor d a)) ≡ false
  passes_live a t h = ap not (live_as a ∙ ap is_some h)

  pub passes_key : (k : ℕ) → k < accepted_of letters.K es → not (is_key d k) ≡ false
  passes_key k h = ap not (lt-ltb k (length d.makers) (subst (λ (n : ℕ). k < n) (sym keys_as) h))
