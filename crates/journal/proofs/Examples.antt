-- Short files are computed. The long ones are not written out: their length is counted by induction, and the theorems
-- on files do the rest.
use Prim.Native.Nat.{ℕ, zero, suc, ◌+◌, ◌*◌, ◌<◌, ◌≤◌}
use mathlib.Core.Path.{◌≡◌, refl, ap, subst, ◌∙◌}
use mathlib.Core.Bool.{true}
use mathlib.Core.Logic.{inr}
use mathlib.Core.List.{List, [], ◌∷◌, ◌++◌}
use native.Mathlib.Omega.{arith}
use lib.ListN.{length, take, replicate, length-append}
use lib.Seq.{take-append_seam}
use lib.Dec.{lit<}
use borrow.Author.Tests.{le-leb, lt-ltb, le-ltb}
use Rattle.std.specs.Prelude.{Ok, Err}
use Rattle.call.specs.Calls.{Call, call_with}
use Rattle.journal.specs.declared.file.Refusal.TheVariants.{Full, Corrupt}
use Rattle.journal.specs.Format.{all_bytes, file_head, file_bytes, most_bytes, is_fit, Recordable, AllRecordable}
use Rattle.journal.specs.Reading.{verdict_of}
use Rattle.journal.specs.Appending.{append_answer, with_record, empty_answer}
use Rattle.journal.specs.Theorems.Declines.{full}
use Rattle.journal.specs.Theorems.Examples.{users_then, eight_bytes, longest, one_more, call_u, Examples, AppendExamples, NumberExamples}
use Rattle.journal.proofs.Unfoldings.{computing}
use Rattle.journal.proofs.ByteLists.{all_are}
use Rattle.journal.proofs.ReadsBack.{file_length, written_readable}
use Rattle.journal.proofs.Declines.{declined_exactly}

users_length : (n : ℕ) (rs : List Call) → length (all_bytes (users_then n rs)) ≡ 9 * n + length (all_bytes rs)
unfolding users_then
users_length zero rs = omega arith
users_length (suc n) rs = omega (arith, users_length n rs)

users_recordable : (n : ℕ) (rs : List Call) → AllRecordable rs → AllRecordable (users_then n rs)
unfolding users_then computing
users_recordable zero rs v = v
users_recordable (suc n) rs v =
    (record { fit = refl; letter_byte = lit< tt; a_word = lit< tt; b_word = lit< tt; c_word = lit< tt; text_bytes = all_are [] tt }, users_recordable n rs v)

long_refused : (rs : List Call) → most_bytes < length (file_bytes rs) → verdict_of (file_bytes rs) ≡ Err Corrupt
unfolding computing
long_refused rs h =
    let s = file_head (length rs) ++ all_bytes rs in
    rw (le-leb 3 (length s) (omega arith), le-ltb (length s) 7 (omega arith), lt-ltb most_bytes (length s) h)

lock_recordable : Recordable (call_with 76 0 0 1 eight_bytes)
unfolding computing
lock_recordable =
    record {
      fit = refl;
      letter_byte = lit< tt;
      a_word = lit< tt;
      b_word = lit< tt;
      c_word = lit< tt;
      text_bytes = all_are eight_bytes (lit< tt, (lit< tt, (lit< tt, (lit< tt, (lit< tt, (lit< tt, (lit< tt, (lit< tt, tt))))))));
    }

user_fit : is_fit call_u ≡ true
unfolding computing
user_fit = refl

longest_is : length (file_bytes longest) ≡ 65535
longest_is = file_length longest ∙ ap (λ (k : ℕ). 7 + k) (users_length 7279 _)

one_more_is : length (file_bytes one_more) ≡ 65536
one_more_is = file_length one_more ∙ ap (λ (k : ℕ). 7 + k) (users_length 7279 _)

longest_reads : verdict_of (file_bytes longest) ≡ Ok tt
longest_reads = written_readable longest (users_recordable 7279 _ (lock_recordable, tt)) (omega (arith, longest_is))

longest_full : append_answer (file_bytes longest ++ replicate 9 0) 65535 call_u ≡ Err Full
longest_full =
    let d : List ℕ = file_bytes longest ++ replicate 9 0 in
    let inside : 65535 ≤ length d = omega (arith, length-append (file_bytes longest) (replicate 9 0), longest_is) in
    let file : take 65535 d ≡ file_bytes longest =
    subst (λ (n : ℕ). take n d ≡ file_bytes longest) longest_is (take-append_seam (file_bytes longest) (replicate 9 0)) in
    (declined_exactly d 65535 call_u Full).1 (full inside (ap verdict_of file ∙ longest_reads) user_fit (inr (lit< tt)))

pub examples : Examples
unfolding computing
examples =
    record {
      empty_readable = refl;
      empty_has_none = refl;
      empty_written = refl;
      one_readable = refl;
      one_record = refl;
      two_readable = refl;
      two_records = refl;
      wrong_value = refl;
      wrong_formula = refl;
      no_bytes = refl;
      two_bytes = refl;
      wrong_mark = λ t. let s : List ℕ = 75 ∷ 76 ∷ 69 ∷ t in rw (le-leb 3 (length s) (omega arith));
      mark_alone = refl;
      six_bytes = refl;
      version_cut = refl;
      version_one = λ x y t. let s : List ℕ = 75 ∷ 76 ∷ 68 ∷ 1 ∷ 0 ∷ x ∷ y ∷ t in rw (le-leb 3 (length s) (omega arith), le-ltb (length s) 7 (omega arith));
      version_zero = refl;
      version_three = refl;
      version_258 = refl;
      version_512 = refl;
      longest_length = longest_is;
      longest_readable = longest_reads;
      one_more_length = one_more_is;
      one_more_refused = long_refused one_more (omega (arith, one_more_is));
      unknown_letter = refl;
      unnamed_a = refl;
      unnamed_b = refl;
      unnamed_c = refl;
      text_of_none = refl;
      text_of_96 = refl;
      text_of_97 = refl;
      text_outside_lock = refl;
      head_cut = refl;
      text_cut = refl;
      record_missing = refl;
      left_over = refl;
      record_left_over = refl;
      found_record = refl;
      found_end = refl;
      found_damaged = refl;
      opened_readable = refl;
      opened_refused = refl;
    }

pub append_examples : AppendExamples
unfolding computing append_answer empty_answer with_record
append_examples =
    record {
      beyond_buffer = refl;
      not_journal = refl;
      cut_short = refl;
      other_version = refl;
      broken = refl;
      unfit_letter = refl;
      unfit_field = refl;
      unfit_no_text = refl;
      unfit_text = refl;
      no_room_lem = refl;
      no_room_by_one = refl;
      just_room = refl;
      over_limit = longest_full;
      accepted = refl;
      accepted_buffer = refl;
      refused_buffer = refl;
      accepted_length = refl;
      refused_length = refl;
      empty_no_room = refl;
      empty_kept = refl;
      empty_accepted = refl;
      empty_buffer = refl;
    }

pub number_examples : NumberExamples
number_examples =
    record {
      full = refl;
      not_journal = refl;
      other_version = refl;
      corrupt = refl;
      readable = refl;
      readable_values = refl;
      refused = refl;
      refused_values = refl;
      found_record = λ e. refl;
      found_record_values = refl;
      found_end = refl;
      found_end_values = refl;
      found_damaged = refl;
      found_damaged_values = refl;
      appended = refl;
      appended_values_lem = refl;
      declined = refl;
      declined_values = refl;
    }
