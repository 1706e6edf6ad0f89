-- What the segments store is read off the agreement of model and history; the opening law then says for which key sets
-- it opens.
use mathlib.Core.Path.{◌≡◌, refl, sym, ap, ◌∙◌}
use mathlib.Core.List.{List, [], map, Memᴰ}
use mathlib.Core.Bool.{false}
use Prim.Native.Nat.{ℕ}
use lib.Dec.{eqb}
use lib.ListN.{length, length-map}
use Rattle.product.specs.Product.{opens}
use Rattle.product.specs.Sum.{Sum}
use Rattle.formula.specs.Outcome.{outcome_of}
use Rattle.formula.specs.Meaning.{text_holds, Meaning}
use Rattle.formula.specs.Compiler.{Compiler, Laws, everything}
use Rattle.formula.proofs.Opening.{laws, opening_law, holds_spelt}
use Rattle.base.specs.Lists.{any, keep, concat_map, total}
use Rattle.model.specs.Threads.{KeySet}
use Rattle.model.specs.State.{State, empty_state, Segment, LockProduct, segment_at, blank_segment, is_of_lock}
use Rattle.model.specs.Effects.{lock_product}
use Rattle.model.specs.History.{Event, Lock, history, accepted_of}
use Rattle.model.specs.Replay.{state_after, events_of}
use Rattle.model.specs.HistoryLocks.{locks_on, products_of, stored_of, standing_products, stored_for, stored_opens}
use Rattle.model.specs.Theorems.StoredLocks.{Stores, StoredLocksByLaws, StoredFormula, StoredLocks}
use Rattle.base.proofs.Lists.{any_map, any_concat_map, keep_none, length_concat_map, keep_each, concat_map_at, map_same}
use Rattle.model.proofs.Agreement.StandingLocks.{opens_any_lem}
use Rattle.model.proofs.Agreement.ReadLocks.{lock_stands, segment_stores, lock_made_lem, lock_stores}
use Rattle.model.proofs.Agreement.Agrees.{Agrees}
use Rattle.model.proofs.Agreement.EveryCall.{agree}
use Rattle.model.proofs.Refinement.EveryCall.{follows}

module _ (compile : Compiler) (meaning : Meaning) (law : Laws compile meaning) (es : List Event) (d : State) (c : Agrees compile d (history es) (λ k. accepted_of k es)) where
  stores_as : (s : ℕ) → (segment_at d s).products ≡ concat_map (stored_of compile) (locks_on es s)
  stores_as = segment_stores compile meaning law d.segments d.lock_numbers (history es).locks c.locks

  count_as : (s : ℕ) → length (segment_at d s).products ≡ standing_products compile es s
  count_as s =
      ap length (stores_as s)
      ∙ length_concat_map (stored_of compile) (locks_on es s)
      ∙ ap total (map_same (λ l. length (stored_of compile l)) (λ l. length (products_of compile l.text)) (λ l. length-map (products_of compile l.text) (lock_product l.number l.operations)) (locks_on es s))

  gone_as : (n : ℕ) → any (λ l. eqb l.number n) (history es).locks ≡ false → stored_for d n ≡ []
  gone_as n h =
      keep_none (is_of_lock n) (concat_map (λ (g : Segment). g.products) d.segments)
      (any_concat_map (is_of_lock n) (λ (g : Segment). g.products) d.segments
      ∙ lock_stands compile d.segments d.lock_numbers (history es).locks c.locks n
      ∙ h)

  module _ (l : Lock) (m : Memᴰ l (history es).locks) where
    lock_as : stored_for d l.number ≡ stored_of compile l
    lock_as =
        keep_each (is_of_lock l.number) (λ (g : Segment). g.products) d.segments
        ∙ concat_map_at (λ (g : Segment). keep (is_of_lock l.number) g.products) blank_segment (stored_of compile l) refl d.segments l.segment
        (lock_stores compile meaning law d.segments d.lock_numbers (history es).locks c.locks l m)

    opens_as : (keys : KeySet) → stored_opens d l.number keys ≡ meaning keys l.text
    opens_as keys =
        let ps = products_of compile l.text in
        ap (any (λ (r : LockProduct). opens keys r.product)) lock_as
        ∙ any_map (λ (r : LockProduct). opens keys r.product) (lock_product l.number l.operations) ps
        ∙ sym (opens_any_lem keys ps)
        ∙ law.opening everything l.text ps (lock_made_lem compile meaning law d.segments d.lock_numbers (history es).locks c.locks l m) keys

pub stored_locks_by_laws : StoredLocksByLaws
stored_locks_by_laws compile meaning law xs =
    let f = follows compile meaning law xs in
    let c = agree compile meaning law xs in
    let d = state_after compile empty_state xs in
    let es = events_of compile empty_state xs in
    rw (f.events, f.state)
    (record {
      segment = stores_as compile meaning law es d c;
      count = count_as compile meaning law es d c;
      text = lock_made_lem compile meaning law d.segments d.lock_numbers (history es).locks c.locks;
      lock = lock_as compile meaning law es d c;
      gone = gone_as compile meaning law es d c;
      opening = opens_as compile meaning law es d c;
    })

formula_as : (es : List Event) (d : State) → Stores outcome_of text_holds es d → (l : Lock) → Memᴰ l (history es).locks → StoredFormula d l
formula_as es d s l m =
    let o = opening_law everything l.text (products_of outcome_of l.text) (s.text l m) in
    record {
      tree = o.tree;
      text = o.text;
      list = o.list;
      stored = s.lock l m ∙ ap (λ (ps : Sum). map (lock_product l.number l.operations) ps) o.list;
      opening = λ keys. s.opening l m keys ∙ holds_spelt everything l.text o.tree o.text keys;
      spelt = λ i t h keys. s.opening l m keys ∙ holds_spelt i l.text t h keys;
    }

pub stored_locks : StoredLocks
stored_locks =
    record {
      state = stored_locks_by_laws outcome_of text_holds laws;
      formula = λ xs l m. formula_as _ _ (stored_locks_by_laws outcome_of text_holds laws xs) l m;
    }
