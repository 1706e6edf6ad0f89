-- Document 01's number and values of a decoded call. The number is that of the refusal, and 0 where nothing is refused.
use Rattle.std.specs.Prelude.{List, [], ◌∷◌, ℕ, None, Some}
use Rattle.call.specs.declared.request.Request.{Request}
use Rattle.call.specs.Calls.{Decoded}
use Rattle.call.specs.Requests.{without_text}

-- 18, before all else
abbrev pub decoded_number : Decoded → ℕ
decoded_number (Some q) = 0
decoded_number None = 18

-- the letter's byte and the fields a, b, c, with 0 for those not named
abbrev pub request_values : Request → List ℕ
request_values q = (without_text q).letter ∷ (without_text q).a ∷ (without_text q).b ∷ (without_text q).c ∷ []

-- 'A refusal gives its number and, with 14, the lock, else 0'
abbrev pub decoded_values : Decoded → List ℕ
decoded_values (Some q) = request_values q
decoded_values None = 0 ∷ []
