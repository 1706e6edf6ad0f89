-- Worked examples of calls (document 01: 'Twelve calls', 'Desk file'): of each letter a call and its request, and of
-- each of these calls those that have another number than 0 in a field that the letter does not name. Letters are
-- written as their bytes. Proved in `proofs/Examples.antt`.
use Rattle.std.specs.Prelude.{◌≡◌, true, false, cond, List, [], ◌∷◌, ◌++◌, map, eqb, length, None, Some}
use Rattle.base.specs.Lists.{concat_map}
use Rattle.call.specs.declared.request.Request.{Request}
use Rattle.call.specs.declared.request.Request.TheVariants as request
use Rattle.call.specs.Calls.{Call, call_with, table, decoded, record_fits}
use Rattle.call.specs.Numbers.{decoded_number, decoded_values}

-- a call and its request
pub record Worked : Type 0 where
  pub call : Call
  pub request : Request

abbrev worked : Call → Request → Worked
worked x q = record { call = x; request = q }

-- in the table's order, and each field that a letter names is another number, none of them 0; the lock's text is `U0`
abbrev pub one_each : List Worked
one_each =
    worked (call_with 85 0 0 0 []) request.NewUser
    ∷ worked (call_with 83 7 0 0 []) (request.StartThread 7)
    ∷ worked (call_with 69 7 0 0 []) (request.EndThread 7)
    ∷ worked (call_with 78 7 5 0 []) (request.NewSegment 7 5)
    ∷ worked (call_with 75 7 0 0 []) (request.NewKey 7)
    ∷ worked (call_with 71 7 5 2 []) (request.GiveKey 7 5 2)
    ∷ worked (call_with 84 7 5 2 []) (request.TakeKey 7 5 2)
    ∷ worked (call_with 76 7 5 2 (85 ∷ 48 ∷ [])) (request.AddLock 7 5 2)
    ∷ worked (call_with 68 7 5 0 []) (request.DropLock 7 5)
    ∷ worked (call_with 67 7 5 0 []) (request.CallSegment 7 5)
    ∷ worked (call_with 82 7 0 0 []) (request.ReturnCall 7)
    ∷ worked (call_with 65 7 5 2 []) (request.Access 7 5 2)
    ∷ []

-- the call with a 1 for a field that is 0, for each such field
abbrev pub spoilt : Call → List Call
spoilt x =
    cond (eqb x.a 0) (call_with x.letter 1 x.b x.c x.text ∷ []) []
    ++ cond (eqb x.b 0) (call_with x.letter x.a 1 x.c x.text ∷ []) []
    ++ cond (eqb x.c 0) (call_with x.letter x.a x.b 1 x.text ∷ []) []

pub record Examples : Type 0 where
  -- each row of the table has its worked call
  pub every_letter_lem : map (λ w. w.call.letter) one_each ≡ map (λ r. r.letter) (table 7 5 2)
  pub requests : map (λ w. decoded w.call) one_each ≡ map (λ w. Some w.request) one_each
  pub values :
      map (λ w. decoded_values (Some w.request)) one_each
      ≡ map (λ w. w.call.letter ∷ w.call.a ∷ w.call.b ∷ w.call.c ∷ []) one_each
  -- a field that the letter does not name is not 0: 14 calls
  pub unnamed_count : length (concat_map (λ w. spoilt w.call) one_each) ≡ 14
  pub unnamed_fields :
      map decoded (concat_map (λ w. spoilt w.call) one_each)
      ≡ map (λ x. None) (concat_map (λ w. spoilt w.call) one_each)
  -- B and u are no letters of the table
  pub unknown_letter : decoded (call_with 66 0 0 0 []) ≡ None
  pub small_letter : decoded (call_with 117 0 0 0 []) ≡ None
  -- a text outside L
  pub text_in_new_user : decoded (call_with 85 0 0 0 (85 ∷ [])) ≡ None
  pub text_in_access : decoded (call_with 65 7 5 2 (85 ∷ 48 ∷ [])) ≡ None
  -- an L without a text is well formed, but no record
  pub lock_without_text : decoded (call_with 76 7 5 2 []) ≡ Some (request.AddLock 7 5 2)
  pub text_of_none : record_fits 76 7 5 2 0 ≡ false
  -- '1 to 96 bytes'
  pub text_of_one : record_fits 76 7 5 2 1 ≡ true
  pub text_of_96 : record_fits 76 7 5 2 96 ≡ true
  pub text_of_97 : record_fits 76 7 5 2 97 ≡ false
  pub text_outside_lock : record_fits 65 7 5 2 1 ≡ false
  -- numbers and values
  pub corrupt_number : decoded_number None ≡ 18
  pub corrupt_values : decoded_values None ≡ 0 ∷ []
  pub well_formed_number : (q : Request) → decoded_number (Some q) ≡ 0
