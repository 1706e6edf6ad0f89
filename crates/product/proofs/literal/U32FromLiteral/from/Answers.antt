-- The key's number, doubled, and 1 more where the literal is barred.
use Rattle.product.proofs.Codes.{plain_encoded, barred_encoded}
use Rattle.product.proofs.literal.U32FromLiteral.from.Goals as goal

pub returns-in-Plain : goal.returns-in-Plain
returns-in-Plain c = plain_encoded c.in-Plain.is c.from.ensures

pub returns-in-Barred : goal.returns-in-Barred
returns-in-Barred c = barred_encoded c.in-Barred.is c.from-in-Barred.ensures
