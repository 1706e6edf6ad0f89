-- What worked examples of calls are written with: document 01's letters, each the call with its fields, and the answers
-- that they are to get.
use Rattle.std.specs.Prelude.{◌≡◌, List, [], map, ℕ}
use Rattle.formula.specs.Outcome.{outcome_of}
use Rattle.call.specs.Letters as letters
use Rattle.call.specs.Calls.{Call, call_with}
use Rattle.model.specs.Answers.{answer_number, answer_value}
use Rattle.model.specs.History.{Event}
use Rattle.model.specs.Replay.{events}

abbrev pub U : Call
U = call_with letters.U 0 0 0 []

abbrev pub S : ℕ → Call
S a = call_with letters.S a 0 0 []

abbrev pub E : ℕ → Call
E a = call_with letters.E a 0 0 []

abbrev pub N : ℕ → ℕ → Call
N a b = call_with letters.N a b 0 []

abbrev pub K : ℕ → Call
K a = call_with letters.K a 0 0 []

abbrev pub G : ℕ → ℕ → ℕ → Call
G a b c = call_with letters.G a b c []

abbrev pub T : ℕ → ℕ → ℕ → Call
T a b c = call_with letters.T a b c []

abbrev pub L : ℕ → ℕ → ℕ → List ℕ → Call
L a b c text = call_with letters.L a b c text

abbrev pub D : ℕ → ℕ → Call
D a b = call_with letters.D a b 0 []

abbrev pub C : ℕ → ℕ → Call
C a b = call_with letters.C a b 0 []

abbrev pub R : ℕ → Call
R a = call_with letters.R a 0 0 []

abbrev pub A : ℕ → ℕ → ℕ → Call
A a b c = call_with letters.A a b c []

-- a call and the answer that it is to get: document 01's number of the refusal, 0 where it is accepted, and the answer
-- or the second number
pub record Expected : Type 0 where
  pub call : Call
  pub number : ℕ
  pub value : ℕ

-- the call is accepted with that answer, or refused with those two numbers
abbrev pub ok : Call → ℕ → Expected
ok x n = record { call = x; number = 0; value = n }

abbrev pub no : Call → ℕ → ℕ → Expected
no x number value = record { call = x; number = number; value = value }

abbrev pub calls_of : List Expected → List Call
calls_of es = map (λ e. e.call) es

-- what a call got
abbrev pub got : Event → Expected
got e = record { call = e.call; number = answer_number e.answer; value = answer_value e.answer }

-- these calls, one after the other from the empty state, get these answers
abbrev pub Happens : List Expected → Type 0
Happens es = map got (events outcome_of (calls_of es)) ≡ es
