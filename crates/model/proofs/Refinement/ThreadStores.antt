-- A thread's table changed: what is stored is read back as the model's change of its place, and the sizes stay.
use mathlib.Core.Path.{◌≡◌, refl, sym, ap, ap₂, ◌∙◌}
use mathlib.Core.Bool.{false, not}
use mathlib.Core.List.{List, [], map}
use Prim.Native.Nat.{ℕ, zero, suc, ◌<◌}
use native.Mathlib.Omega.{arith}
use lib.Dec.{eqb}
use lib.ListN.{length, get_or, set, length-map, get_or-map}
use borrow.Author.Tests.{not-false}
use Rattle.product.specs.declared.literal.Key.{Key}
use Rattle.base.specs.Lists.{is_some}
use Rattle.model.specs.State.{State, fresh_thread, Place, free, taken, find_thread, place_of}
use Rattle.model.specs.Effects.{with_places, on_thread, at_place, push_frame, pop_frame, revoke_thread, revoke_key}
use Rattle.model.specs.Limits.{most_threads, most_segments, most_frames}
use Rattle.model.specs.Cells.{Row, Table, Cells, Sized, cell, row_at, table_at, defined_cell, keys_in, place_in, depth_of, frames_of, state_of, threads_are, frame_count, live_cell}
use Rattle.model.specs.Stores.{on_table, start_thread, end_thread, push_row, pop_row, revoke_row, revoke_rows, revoke_code, at_thread}
use Rattle.base.proofs.Lists.{case_bool, map_map, map_same, map_set}
use Rattle.model.proofs.Agreement.Places.{Lives, lives}
use Rattle.model.proofs.Refinement.ThreadTables.{length_frames, live_place, start_place, end_place, push_place, pop_place, revoke_place}
use Rattle.model.proofs.Refinement.Sizes.{Shaped, shaped, tables_set, tables_each, shaped_row, shaped_cell, sized_threads}
use Rattle.model.proofs.Refinement.Counts.{Holds}

length_revoked : (b x : ℕ) (w : Row) → length (revoke_row b x w) ≡ length w
length_revoked b x w = case_bool (eqb (cell w 0) b) (λ e. simp e (length-map w _)) (λ e. simp e)

-- a table changed at a place, as the place is
places_set : (ts : List Table) (i : ℕ) (f : Table → Table) (F : Place → Place) → place_in (f (table_at ts i)) ≡ F (place_in (table_at ts i))
    → map place_in (on_table ts i f) ≡ set (map place_in ts) i (F (get_or (map place_in ts) i free))
places_set ts i f F h =
    map_set place_in ts i (f (table_at ts i)) ∙ ap (set (map place_in ts) i) (h ∙ ap F (sym (get_or-map place_in ts i [])))

module _ (d : Cells) (c : Sized d) where
  abbrev pub places : List Place
  places = map place_in d.threads

  pub length_places : length places ≡ most_threads
  length_places = length-map d.threads place_in ∙ c.threads.count

  -- a change of the table at a place
  place_held : (i : ℕ) (f : Table → Table) (F : Place → Place) → place_in (f (table_at d.threads i)) ≡ F (place_in (table_at d.threads i))
      → (i < most_threads → Shaped 17 (f (table_at d.threads i)))
      → Holds (threads_are (on_table d.threads i f) d) (with_places (state_of d) (set places i (F (get_or places i free))))
  unfolding state_of
  place_held i f F h s =
      record {
        state = ap (with_places (state_of d)) (places_set d.threads i f F h);
        sized = sized_threads c _ (tables_set 64 17 d.threads c.threads i _ s);
      }

  -- S: at a place, a thread that begins
  pub start_held : (i n u : ℕ) → i < most_threads
      → Holds (threads_are (on_table d.threads i (start_thread n u)) d) (with_places (state_of d) (set places i (taken n (fresh_thread u))))
  start_held i n u lt =
      let t : Shaped 17 (table_at d.threads i) = shaped 64 17 d.threads c.threads i lt in
      place_held i (start_thread n u) (λ x. taken n (fresh_thread u)) (start_place n u (table_at d.threads i) (let l = t.rows in omega arith))
      (λ l. shaped_row 17 (table_at d.threads i) t 0 _ refl)

  -- the table of a live thread
  module _ (a : ℕ) (p : Lives a places) where
    abbrev pub mine : Table
    mine = table_at d.threads (place_of a places)

    mine_low : place_of a places < most_threads
    mine_low = let h = p.low in let l = length_places in omega arith

    mine_shaped : Shaped 17 mine
    mine_shaped = shaped 64 17 d.threads c.threads (place_of a places) mine_low

    mine_place : place_in mine ≡ taken a p.thread
    mine_place = sym (get_or-map place_in d.threads (place_of a places) []) ∙ p.taken_by

    mine_live : eqb (cell (row_at mine 0) live_cell) 0 ≡ false
    mine_live =
        case_bool (eqb (cell (row_at mine 0) live_cell) 0)
        (λ e. let dead : place_in mine ≡ free = simp e in let z : ◌≡◌ {A = Place} free (taken a p.thread) = sym dead ∙ mine_place in let o : ◌≡◌ {A = ℕ} 0 1 = cc in absurd (omega arith))
        (λ e. e)

    -- its frames are those that the model counts
    pub mine_depth : length p.thread.frames ≡ depth_of mine
    mine_depth =
        let e : taken (cell (row_at mine 0) 0) (record { user = cell (row_at mine 0) 1; frames = frames_of mine (depth_of mine) }) ≡ taken a p.thread =
        sym (live_place mine mine_live) ∙ mine_place in
        sym (ap (λ (x : Place). frames_in x) e) ∙ length_frames mine (depth_of mine)
      where
        frames_in : Place → ℕ
        frames_in free = 0
        frames_in (taken k t) = length t.frames

    -- E, C and R: a change of it
    thread_held : (f : Table → Table) (F : Place → Place) → place_in (f mine) ≡ F (place_in mine) → Shaped 17 (f mine)
        → Holds (at_thread d a f) (at_place (state_of d) a F)
    unfolding state_of
    thread_held f F h s = place_held (place_of a places) f F h (λ l. s)

    pub end_held : Holds (at_thread d a end_thread) (at_place (state_of d) a (λ x. free))
    end_held =
        let s = mine_shaped in
        thread_held end_thread (λ x. free) (end_place mine (let l = s.rows in omega arith) (s.cells 0 (omega arith))) (shaped_cell 17 mine s 0 live_cell 0 (omega arith))

    pub pop_held : Holds (at_thread d a pop_row) (at_place (state_of d) a (on_thread pop_frame))
    pop_held =
        let s = mine_shaped in
        thread_held pop_row (on_thread pop_frame) (pop_place mine s.rows (s.cells 0 (omega arith))) (shaped_cell 17 mine s 0 frame_count _ (omega arith))

    -- the new frame has the segment and the keys that its row holds
    pub push_held : (b : ℕ) (keys : List Key) (w : Row) → length w ≡ 8 → depth_of mine < most_frames → cell w 0 ≡ b → keys_in w ≡ keys
        → Holds (at_thread d a (push_row w)) (at_place (state_of d) a (on_thread (push_frame b keys)))
    push_held b keys w eight deep own listed =
        let s = mine_shaped in
        thread_held (push_row w) (on_thread (push_frame b keys))
        (push_place w mine s.rows (s.cells 0 (omega arith)) deep
        ∙ ap₂ (λ (n : ℕ) (ks : List Key). on_thread (push_frame n ks) (place_in mine)) own listed)
        (shaped_cell 17 _ (shaped_row 17 mine s (suc (depth_of mine)) w eight) 0 frame_count _ (omega arith))

-- T: every table, of whatever the arrays hold
module _ (b k : ℕ) (low : b < most_segments) where
  revoked_shaped : (n : ℕ) (t : Table) → Shaped 17 t → n < 17 → Shaped 17 (revoke_rows b (defined_cell k) t n)
  revoked_shaped zero t s h = s
  revoked_shaped (suc n) t s h =
      revoked_shaped n _ (shaped_row 17 t s (suc n) _ (length_revoked b (defined_cell k) (row_at t (suc n)) ∙ s.cells (suc n) h)) (omega arith)

  pub revoke_held : {d : Cells} {s : State} → Holds d s
      → Holds (threads_are (map (revoke_code b (defined_cell k)) d.threads) d) (with_places s (revoke_key b k s.places))
  unfolding state_of
  revoke_held {d} {s} h =
      record {
        state =
            ap (with_places (state_of d))
            (map_map place_in (revoke_code b (defined_cell k)) d.threads
            ∙ map_same _ _ (revoke_place b k low) d.threads
            ∙ sym (map_map (on_thread (revoke_thread b k)) place_in d.threads))
            ∙ ap (λ (x : State). with_places x (revoke_key b k x.places)) h.state;
        sized =
            sized_threads h.sized _
            (tables_each 64 17 d.threads h.sized.threads (revoke_code b (defined_cell k)) refl (λ t s. revoked_shaped (depth_of t) t s (omega arith)));
      }

-- a thread that the test found
pub alive : (d : Cells) (a : ℕ) → not (is_some (find_thread a (map place_in d.threads))) ≡ false → Lives a (map place_in d.threads)
alive d a h = lives a (map place_in d.threads) (not-false _ h)
