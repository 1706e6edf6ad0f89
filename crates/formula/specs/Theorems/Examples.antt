-- Worked examples: document 01's texts under 'Trial desks', those that just fit and those that just do not, and texts
-- that show each rule of 'Lock text' and each limit. With each its refusal's number, 0 for none, and its products,
-- worked out by hand from document 01. Proved in `proofs/Examples.antt`, by computing.
use Rattle.std.specs.Prelude.{◌≡◌, Bool, true, false, List, [], ◌∷◌, ◌++◌, map, ℕ, length, replicate, Ok, Err}
use Prim.Native.String.{String}
use Rattle.product.specs.declared.literal.Literal.TheVariants.{Plain}
use Rattle.product.specs.declared.literal.Key.TheVariants.{User, Thread, Segment}
use Rattle.product.specs.Sum.{Sum, opens_any}
use Rattle.product.specs.Cells.{blank_row}
use Rattle.product.specs.Held.{held_by}
use Rattle.formula.specs.declared.text.Issued.{Issued}
use Rattle.formula.specs.declared.text.Refusal.TheVariants.{Unsatisfiable}
use Rattle.formula.specs.Spelling.{not_sign}
use Rattle.formula.specs.Outcome.{outcome_of, sum_in, compiled_of}
use Rattle.formula.specs.Meaning.{text_holds}
use Rattle.formula.specs.Compiler.{everything}
use Rattle.base.specs.Bytes.{bytes}
use Rattle.product.specs.Notation.{plain, barred}
use Rattle.formula.specs.Notation.{made, numbered, compiled}

-- document 01's texts
pub record Examples : Type 0 where
  -- the starred ones
  pub contradiction : compiled 2 "D0&!D0" ≡ (13, [])
  pub one : compiled 2 "(D0&!D0)|D1" ≡ (0, (plain 1 ∷ []) ∷ [])
  pub two : compiled 2 "D0|D0&D1" ≡ (0, (plain 0 ∷ []) ∷ (plain 0 ∷ plain 1 ∷ []) ∷ [])
  pub neither : compiled 2 "!(D0|D1)" ≡ (0, (barred 0 ∷ barred 1 ∷ []) ∷ [])
  pub padded : compiled 2 "D01" ≡ (11, [])
  pub four : compiled 4 "(D0|D1)&(D2|D3)"
      ≡ (
        0,
        (plain 0 ∷ plain 2 ∷ []) ∷ (plain 0 ∷ plain 3 ∷ []) ∷ (plain 1 ∷ plain 2 ∷ [])
            ∷ (plain 1 ∷ plain 3 ∷ []) ∷ [],
      )
  -- eight different keys joined by `|` fit, nine do not; six by `&` fit, seven do not
  pub eight : compiled 9 "D0|D1|D2|D3|D4|D5|D6|D7" ≡ (0, map (λ n. plain n ∷ []) (0 ∷ 1 ∷ 2 ∷ 3 ∷ 4 ∷ 5 ∷ 6 ∷ 7 ∷ []))
  pub nine : compiled 9 "D0|D1|D2|D3|D4|D5|D6|D7|D8" ≡ (12, [])
  pub six : compiled 9 "D0&D1&D2&D3&D4&D5" ≡ (0, map plain (0 ∷ 1 ∷ 2 ∷ 3 ∷ 4 ∷ 5 ∷ []) ∷ [])
  pub seven : compiled 9 "D0&D1&D2&D3&D4&D5&D6" ≡ (12, [])
  -- the answer in arrays, every place of it, of an accepted text, where 393,217 and 393,219 are D0 and D1 barred; and
  -- that of a refusal
  pub rows : compiled_of (made 2) (bytes "!(D0|D1)")
      ≡ Ok (record {
        count = 1;
        rows = (393217 ∷ 393219 ∷ 0 ∷ 0 ∷ 0 ∷ 0 ∷ 0 ∷ 2 ∷ []) ∷ replicate 7 blank_row;
      })
  pub blank : compiled_of (made 2) (bytes "D0&!D0") ≡ Err Unsatisfiable

-- a different number of keys of each kind: U0; R0, R1; S0 to S2; D0 to D3
abbrev pub several : Issued
several = record { users = 1; threads = 2; segments = 3; defined = 4 }

abbrev pub compiled_several : String → ℕ × Sum
compiled_several text = numbered (outcome_of several (bytes text))

-- texts of 96 bytes and of 97, which differ in a digit alone: 94 times `!`, and D1 or D10
abbrev pub longest : List ℕ
longest = replicate 94 not_sign ++ bytes "D1"

abbrev pub too_long : List ℕ
too_long = replicate 94 not_sign ++ bytes "D10"

-- more users than numbers of 16 bits
abbrev pub beyond : Issued
beyond = record { users = 100000; threads = 0; segments = 0; defined = 0 }

-- whether the text's formula holds for the key set with these keys' numbers; D0 is 196,608, D1 196,609 and D2 196,610
abbrev pub holds_for : List ℕ → String → Bool
holds_for keys text = text_holds (held_by keys) (bytes text)

pub record FurtherExamples : Type 0 where
  -- 1 to 96 bytes
  pub empty : compiled 2 "" ≡ (11, [])
  pub longest_length : length longest ≡ 96
  pub longest_fits : numbered (outcome_of (made 11) longest) ≡ (0, (plain 1 ∷ []) ∷ [])
  pub too_long_length : length too_long ≡ 97
  pub too_long_lem : numbered (outcome_of (made 11) too_long) ≡ (11, [])
  -- a bracket holds a whole formula again, at most 8 deep
  pub eight_deep : compiled 1 "((((((((D0))))))))" ≡ (0, (plain 0 ∷ []) ∷ [])
  pub nine_deep : compiled 1 "(((((((((D0)))))))))" ≡ (11, [])
  pub nine_deep_right : compiled 1 "D0|D0&(((((((((D0)))))))))" ≡ (11, [])
  pub nine_brackets : compiled 1 "(D0)|(D0)|(D0)|(D0)|(D0)|(D0)|(D0)|(D0)|(D0)" ≡ (0, (plain 0 ∷ []) ∷ [])
  pub unclosed : compiled 1 "(D0" ≡ (11, [])
  pub unopened : compiled 1 "D0)" ≡ (11, [])
  pub empty_bracket : compiled 1 "()" ≡ (11, [])
  -- ASCII, no blanks; a key is its letter and a decimal number without leading zeros
  pub blank_inside : compiled 2 "D0 |D1" ≡ (11, [])
  pub blank_before : compiled 2 " D0" ≡ (11, [])
  pub blank_after : compiled 2 "D0 " ≡ (11, [])
  pub lower_case : compiled 1 "d0" ≡ (11, [])
  pub other_letter : compiled_several "A0" ≡ (11, [])
  pub two_zeros : compiled 1 "D00" ≡ (11, [])
  pub no_number : compiled 1 "D" ≡ (11, [])
  pub no_letter : compiled 1 "0" ≡ (11, [])
  pub two_digits : compiled 11 "D10" ≡ (0, (plain 10 ∷ []) ∷ [])
  pub largest : numbered (outcome_of everything (bytes "U65535&R65535&S65535&D65535"))
      ≡ (0, (Plain (User 65535) ∷ Plain (Thread 65535) ∷ Plain (Segment 65535) ∷ plain 65535 ∷ []) ∷ [])
  pub beyond_last : numbered (outcome_of beyond (bytes "U65535")) ≡ (0, (Plain (User 65535) ∷ []) ∷ [])
  pub beyond_none : numbered (outcome_of beyond (bytes "U65536")) ≡ (11, [])
  -- the last key of each kind that was handed out, and the next
  pub last_user : compiled_several "U0" ≡ (0, (Plain (User 0) ∷ []) ∷ [])
  pub next_user : compiled_several "U1" ≡ (11, [])
  pub last_thread_lem : compiled_several "R1" ≡ (0, (Plain (Thread 1) ∷ []) ∷ [])
  pub next_thread : compiled_several "R2" ≡ (11, [])
  pub last_segment : compiled_several "S2" ≡ (0, (Plain (Segment 2) ∷ []) ∷ [])
  pub next_segment : compiled_several "S3" ≡ (11, [])
  pub last_defined : compiled_several "D3" ≡ (0, (plain 3 ∷ []) ∷ [])
  pub next_defined : compiled_several "D0|D4" ≡ (11, [])
  -- operands
  pub no_right_and : compiled 2 "D0&" ≡ (11, [])
  pub no_left_and : compiled 2 "&D0" ≡ (11, [])
  pub no_right_or : compiled 2 "D0|" ≡ (11, [])
  pub no_left_or : compiled 2 "|D0" ≡ (11, [])
  pub two_ands : compiled 2 "D0&&D1" ≡ (11, [])
  pub no_join : compiled 2 "D0D1" ≡ (11, [])
  pub not_alone : compiled 2 "!" ≡ (11, [])
  pub not_after : compiled 2 "D0!" ≡ (11, [])
  -- `!` stands before a key, a bracket or another `!`, and binds tightest; then `&`, then `|`
  pub not_one : compiled 2 "!D0" ≡ (0, (barred 0 ∷ []) ∷ [])
  pub not_twice : compiled 2 "!!D0" ≡ (0, (plain 0 ∷ []) ∷ [])
  pub not_and : compiled 2 "!D0&D1" ≡ (0, (barred 0 ∷ plain 1 ∷ []) ∷ [])
  pub not_or : compiled 2 "!D0|D1" ≡ (0, (barred 0 ∷ []) ∷ (plain 1 ∷ []) ∷ [])
  pub and_first : compiled 3 "D0|D1&D2" ≡ (0, (plain 0 ∷ []) ∷ (plain 1 ∷ plain 2 ∷ []) ∷ [])
  pub bracket_first : compiled 3 "(D0|D1)&D2" ≡ (0, (plain 0 ∷ plain 2 ∷ []) ∷ (plain 1 ∷ plain 2 ∷ []) ∷ [])
  pub grouped_left : compiled 4 "D0&(D1|D2)&!D1" ≡ (0, (plain 0 ∷ barred 1 ∷ plain 2 ∷ []) ∷ [])
  -- under an odd number of NOTs AND and OR change places
  pub changed_places : compiled 3 "!(D0&!(D1|!D2))" ≡ (0, (barred 0 ∷ []) ∷ (plain 1 ∷ []) ∷ (barred 2 ∷ []) ∷ [])
  -- the order U, R, S, D, then by number; a key's repeat
  pub ordered_keys : compiled_several "D1&S0&R0&U0&D0"
      ≡ (0, (Plain (User 0) ∷ Plain (Thread 0) ∷ Plain (Segment 0) ∷ plain 0 ∷ plain 1 ∷ []) ∷ [])
  pub key_twice : compiled 2 "D1&D0&D1" ≡ (0, (plain 0 ∷ plain 1 ∷ []) ∷ [])
  -- a product's repeat, the first staying; nothing else is simplified
  pub product_twice : compiled 2 "D1|D0|D1" ≡ (0, (plain 1 ∷ []) ∷ (plain 0 ∷ []) ∷ [])
  pub always_true : compiled 1 "D0|!D0" ≡ (0, (plain 0 ∷ []) ∷ (barred 0 ∷ []) ∷ [])
  -- contradictions and repeats go before a node is measured, and every node is measured, not only the last
  pub seven_contradict : compiled 6 "D0&D1&D2&D3&D4&D5&!D0" ≡ (13, [])
  pub nine_repeat : compiled 8 "D0|D1|D2|D3|D4|D5|D6|D7|D0"
      ≡ (0, map (λ n. plain n ∷ []) (0 ∷ 1 ∷ 2 ∷ 3 ∷ 4 ∷ 5 ∷ 6 ∷ 7 ∷ []))
  pub inner_wide : compiled 7 "(D0&D1&D2&D3&D4&D5&D6)&!D0" ≡ (12, [])
  pub inner_right : compiled 7 "!D0&(D0&D1&D2&D3&D4&D5&D6)" ≡ (12, [])
  pub inner_nine : compiled 9 "(D0|D1|D2|D3|D4|D5|D6|D7|D8)&D0" ≡ (12, [])
  pub not_wide : compiled 7 "!(D0&D1&D2&D3&D4&D5&D6)" ≡ (0, map (λ n. barred n ∷ []) (0 ∷ 1 ∷ 2 ∷ 3 ∷ 4 ∷ 5 ∷ 6 ∷ []))
  pub not_seven : compiled 7 "!(D0|D1|D2|D3|D4|D5|D6)" ≡ (12, [])
  -- 11 comes before 12
  pub malformed_first : compiled 8 "D0|D1|D2|D3|D4|D5|D6|D7|D8" ≡ (11, [])
  -- A plain key holds for a key set that has it. `!D0` holds for one without D0, and needs no other key.
  pub not_without : holds_for [] "!D0" ≡ true
  pub not_with : holds_for (196608 ∷ []) "!D0" ≡ false
  pub not_other : holds_for (196609 ∷ []) "!D0" ≡ true
  pub not_opens : opens_any (held_by []) (sum_in (outcome_of (made 1) (bytes "!D0"))) ≡ true
  pub not_shut : opens_any (held_by (196608 ∷ [])) (sum_in (outcome_of (made 1) (bytes "!D0"))) ≡ false
  pub or_alone : holds_for (196608 ∷ []) "D0|D1&D2" ≡ true
  pub bracket_alone : holds_for (196608 ∷ []) "(D0|D1)&D2" ≡ false
  pub bracket_both : holds_for (196608 ∷ 196610 ∷ []) "(D0|D1)&D2" ≡ true
  pub no_formula : holds_for (196608 ∷ []) "D0|" ≡ false
