-- Document 01, 'The history', line by line: what is read from a list of calls, each with its answer or refusal. Nothing
-- of the state is fed to it.
use Rattle.std.specs.Prelude.{Bool, ◌&&◌, not, cond, List, [], ◌∷◌, ◌++◌, map, ℕ, suc, eqb, Ok, Err, None, Some}
use Rattle.product.specs.declared.literal.Key.{Key}
use Rattle.product.specs.declared.literal.Key.TheVariants.{Segment as SegmentKey, Defined}
use Rattle.call.specs.declared.request.Request.{Request}
use Rattle.call.specs.declared.request.Request.TheVariants as request
use Rattle.call.specs.Calls.{Decoded}
use Rattle.call.specs.Calls.{Call, decoded}
use Rattle.call.specs.Letters as letters
use Rattle.call.specs.Requests.{call_of}
use Rattle.model.specs.Answers.{Answer}
use Rattle.model.specs.Answers.{is_accepted}
use Rattle.base.specs.Lists.{Map, put, remove, adjust, any, keep, map_option, or_default, tail_of}
use Rattle.model.specs.Threads.{Frame, Thread, same_key}
use Rattle.formula.specs.declared.text.Issued.{Issued}

-- a segment handed out
pub record Entry : Type 0 where
  pub owner : ℕ
  pub kind : ℕ
  pub keys : List Key

-- segment n when it is handed out: 'a list of its own S key'
abbrev pub fresh_entry : ℕ → ℕ → ℕ → Entry
fresh_entry n owner kind = record { owner = owner; kind = kind; keys = SegmentKey n ∷ [] }

-- a standing lock, with its text for its formula
pub record Lock : Type 0 where
  pub number : ℕ
  pub segment : ℕ
  pub operations : ℕ
  pub text : List ℕ

-- live threads, segments handed out, and standing locks in the order of their making
pub record History : Type 0 where
  pub threads : Map Thread
  pub segments : Map Entry
  pub locks : List Lock

-- 'It starts empty.'
abbrev pub empty_history : History
empty_history = record { threads = λ n. None; segments = λ n. None; locks = [] }

abbrev pub with_threads : History → Map Thread → History
with_threads h threads = record { threads = threads; segments = h.segments; locks = h.locks }

abbrev pub with_entries : History → Map Entry → History
with_entries h segments = record { threads = h.threads; segments = segments; locks = h.locks }

abbrev pub with_locks : History → List Lock → History
with_locks h locks = record { threads = h.threads; segments = h.segments; locks = locks }

abbrev pub on_keys : (List Key → List Key) → Entry → Entry
on_keys f e = record { owner = e.owner; kind = e.kind; keys = f e.keys }

abbrev pub on_frames : (List Frame → List Frame) → Thread → Thread
on_frames f t = record { user = t.user; frames = f t.frames }

-- D key c struck from a list, and from what an open call hands over if it is one of segment b
abbrev pub strike_key : ℕ → List Key → List Key
strike_key c keys = keep (λ k. not (same_key (Defined c) k)) keys

abbrev pub strike_from : ℕ → ℕ → Frame → Frame
strike_from b c f = record { segment = f.segment; keys = cond (eqb f.segment b) (strike_key c f.keys) f.keys }

-- the list that segment s then has
abbrev pub list_of : History → ℕ → List Key
list_of h s = or_default [] (λ e. e.keys) (h.segments s)

-- 'The history .. takes the editor from the run': the user of thread a of N, K, G, T, L and D, as the history then is
abbrev pub editor_in : History → ℕ → ℕ
editor_in h a = or_default 0 (λ t. t.user) (h.threads a)

-- what an accepted call with answer n writes: 'U, K and A change nothing in it. The others, when accepted:'
unfoldable pub note : History → Request → List ℕ → ℕ → History
note h request.NewUser text n = h
note h (request.NewKey a) text n = h
note h (request.Access a b c) text n = h
-- 'S writes the answered run as live, with user a and no open calls. E strikes run a and its open calls.'
note h (request.StartThread a) text n = with_threads h (put h.threads n (record { user = a; frames = [] }))
note h (request.EndThread a) text n = with_threads h (remove h.threads a)
-- 'N writes the answered segment as handed out, with owner a, kind b and a list of its own S key.' The owner is now the
-- user of thread a.
note h (request.NewSegment a b) text n = with_entries h (put h.segments n (fresh_entry n (editor_in h a) b))
-- 'G adds D key c to segment b's list. T strikes it there', and since request P5 from what each still open call of b
-- hands over.
note h (request.GiveKey a b c) text n = with_entries h (adjust h.segments b (on_keys (λ keys. keys ++ Defined c ∷ [])))
note h (request.TakeKey a b c) text n =
    with_threads (with_entries h (adjust h.segments b (on_keys (strike_key c))))
    (λ m. map_option (on_frames (map (strike_from b c))) (h.threads m))
-- 'L writes the answered lock as standing, with segment b, operations c and the text's formula. D strikes lock b.'
note h (request.AddLock a b c) text n =
    with_locks h (h.locks ++ record { number = n; segment = b; operations = c; text = text } ∷ [])
note h (request.DropLock a b) text n = with_locks h (keep (λ l. not (eqb l.number b)) h.locks)
-- 'C writes, as run a's newest open call, segment b with the list that b then has. R strikes run a's newest open call.'
note h (request.CallSegment a b) text n =
    with_threads h (adjust h.threads a (on_frames (λ frames. record { segment = b; keys = list_of h b } ∷ frames)))
note h (request.ReturnCall a) text n = with_threads h (adjust h.threads a (on_frames tail_of))

-- 'Refused calls .. change nothing in it.'
abbrev pub note_answer : History → Decoded → List ℕ → Answer → History
note_answer h None text r = h
note_answer h (Some q) text (Ok n) = note h q text n
note_answer h (Some q) text (Err r) = h

-- 'fed each call's letter, fields and text together with its answer or refusal'
pub record Event : Type 0 where
  pub call : Call
  pub answer : Answer

abbrev pub event : Call → Answer → Event
event x r = record { call = x; answer = r }

unfoldable pub advance : History → Event → History
advance h e =
    let x = e.call in
    note_answer h (decoded x) x.text e.answer

abbrev pub history_from : History → List Event → History
history_from h [] = h
history_from h (e ∷ es) = history_from (advance h e) es

abbrev pub history : List Event → History
history es = history_from empty_history es

-- the letters that hand out numbers, each its own
abbrev pub numbering : List ℕ
numbering = letters.U ∷ letters.S ∷ letters.N ∷ letters.K ∷ letters.L ∷ []

abbrev pub hands_out : Request → Bool
hands_out q = any (eqb (call_of q []).letter) numbering

-- 'the count of that letter's accepted calls'
abbrev pub counts : ℕ → Event → Bool
counts letter e = is_accepted e.answer && eqb e.call.letter letter

abbrev pub count_from : ℕ → ℕ → List Event → ℕ
count_from letter n [] = n
count_from letter n (e ∷ es) = count_from letter (cond (counts letter e) (suc n) n) es

abbrev pub accepted_of : ℕ → List Event → ℕ
accepted_of letter es = count_from letter 0 es

-- each accepted K's editor, in order
abbrev pub maker_in : History → Event → List ℕ
maker_in h e = cond (counts letters.K e) (editor_in h e.call.a ∷ []) []

abbrev pub makers_from : History → List Event → List ℕ
makers_from h [] = []
makers_from h (e ∷ es) = maker_in h e ++ makers_from (advance h e) es

abbrev pub makers_of : List Event → List ℕ
makers_of es = makers_from empty_history es

-- the keys that the accepted U, S, N and K handed out
abbrev pub issued_by : List Event → Issued
issued_by es =
    record {
      users = accepted_of letters.U es;
      threads = accepted_of letters.S es;
      segments = accepted_of letters.N es;
      defined = accepted_of letters.K es;
    }
