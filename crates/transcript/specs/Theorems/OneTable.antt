-- Document 01 has one table of refusals, and each crate has the part of it that its answers need. Where two crates have
-- a refusal, they give it the same number. Proved in `proofs/OneTable.antt`.
use Rattle.std.specs.Prelude.{◌≡◌, None}
use Rattle.formula.specs.declared.text.Refusal.TheVariants.{Malformed as MalformedText, TooWide as TooWideText, Unsatisfiable as UnsatisfiableText}
use Rattle.formula.specs.Outcome.{refusal_number as text_number}
use Rattle.call.specs.Numbers.{decoded_number}
use Rattle.journal.specs.declared.file.Refusal.TheVariants.{Full as FullFile, Corrupt as CorruptFile}
use Rattle.journal.specs.Verdicts.{refusal_number as file_number}
use Rattle.model.specs.declared.answer.Refusal.TheVariants.{Full, Malformed, TooWide, Unsatisfiable, Corrupt}
use Rattle.model.specs.Answers.{refusal_number}

pub record OneTable : Type 0 where
  -- of formula texts
  pub malformed : text_number MalformedText ≡ refusal_number Malformed
  pub too_wide : text_number TooWideText ≡ refusal_number TooWide
  pub unsatisfiable : text_number UnsatisfiableText ≡ refusal_number Unsatisfiable
  -- of calls that are not well formed
  pub corrupt_call : decoded_number None ≡ refusal_number Corrupt
  -- of files
  pub full_file : file_number FullFile ≡ refusal_number Full
  pub corrupt_file : file_number CorruptFile ≡ refusal_number Corrupt
