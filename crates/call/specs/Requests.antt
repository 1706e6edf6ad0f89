-- The call of a request: its letter, its fields, and of a lock the text.
use Rattle.std.specs.Prelude.{cond, List, [], ℕ, eqb}
use Rattle.call.specs.declared.request.Request.{Request}
use Rattle.call.specs.declared.request.Request.TheVariants as request
use Rattle.call.specs.Calls.{Call, call_with}
use Rattle.call.specs.Letters as letters

-- the letter and the fields of a request, with 0 for those not named, and no text
abbrev pub without_text : Request → Call
without_text request.NewUser = call_with letters.U 0 0 0 []
without_text (request.StartThread a) = call_with letters.S a 0 0 []
without_text (request.EndThread a) = call_with letters.E a 0 0 []
without_text (request.NewSegment a b) = call_with letters.N a b 0 []
without_text (request.NewKey a) = call_with letters.K a 0 0 []
without_text (request.GiveKey a b c) = call_with letters.G a b c []
without_text (request.TakeKey a b c) = call_with letters.T a b c []
without_text (request.AddLock a b c) = call_with letters.L a b c []
without_text (request.DropLock a b) = call_with letters.D a b 0 []
without_text (request.CallSegment a b) = call_with letters.C a b 0 []
without_text (request.ReturnCall a) = call_with letters.R a 0 0 []
without_text (request.Access a b c) = call_with letters.A a b c []

-- the call with the text t, which only L has
abbrev pub with_text : List ℕ → Call → Call
with_text t x = call_with x.letter x.a x.b x.c (cond (eqb x.letter letters.L) t [])

-- the call of a request; t is the text of a lock
abbrev pub call_of : Request → List ℕ → Call
call_of q t = with_text t (without_text q)
