use Rattle.std.proofs.Common.{◌≡◌, ◌∙◌, ℕ, List, ap, subst, drop}
use Rattle.std.specs.Prelude.{codes, unwrap_or}
use Rattle.riichi_hand.specs.RulesText.{IsWrongAt}
use Rattle.clap.specs.Matches.{found_of}
use Rattle.desk_cli.specs.Requests.{rules_option}
use Rattle.desk_cli.proofs.WordCuts.{text_given, boundary}
use Rattle.desk_cli.proofs.request.rules_in.Goals as goal

pub range_from-requires : goal.range_from-requires
range_from-requires c =
    let is_wrong = subst (λ (text : List ℕ). IsWrongAt text c.in-Err.fault.place) c.as_bytes.ensures.value c.in-Err.ensures.fault in
    boundary c.unwrap_or-text.result.now c.in-Err.fault.place c.unwrap_or-text.utf8 is_wrong

pub returns-in-Err-clause-unknown : goal.returns-in-Err-clause-unknown
returns-in-Err-clause-unknown c =
    let same : c.unwrap_or-text.result.now ≡ rules_option (found_of c.args.words.now) = ap (λ text. text.now) c.unwrap_or-text.ensures ∙ text_given c.get_str.result _ ∙ ap (λ given. unwrap_or given (codes "1")) c.get_str.ensures in
    record {
      place = c.in-Err.fault.place;
      is_wrong = subst (λ (text : List ℕ). IsWrongAt text c.in-Err.fault.place) (c.as_bytes.ensures.value ∙ same) c.in-Err.ensures.fault;
      word_is = c.range_from.ensures.value ∙ ap (drop c.in-Err.fault.place) same;
    }
