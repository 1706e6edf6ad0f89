-- There is one request for each well formed call, and one well formed call for each request (and text, of a lock); a
-- decoded call's letter and fields are the call's own. Proved in `proofs/Requests.antt` and `proofs/Values.antt`.
use Rattle.std.specs.Prelude.{◌≡◌, ◌↔◌, [], ◌∷◌, Some}
use Rattle.call.specs.declared.request.Request.{Request}
use Rattle.call.specs.Calls.{Call, decoded}
use Rattle.call.specs.Requests.{call_of}
use Rattle.call.specs.Numbers.{decoded_number, decoded_values}

abbrev pub RequestsExactly : Type 0
RequestsExactly =
    (x : Call) (q : Request) → (decoded x ≡ Some q) ↔ (x ≡ call_of q x.text)

abbrev pub ValuesKept : Type 0
ValuesKept =
    (x : Call) → decoded_number (decoded x) ≡ 0 → decoded_values (decoded x) ≡ x.letter ∷ x.a ∷ x.b ∷ x.c ∷ []
