use Rattle.p4_parse.proofs.Grammatical.{parsed_spelled, spelled_parsed, parsed_bad, bad_parsed}
use Rattle.p4_parse.proofs.laws.texts_are_parsed_by_the_grammar.Goals as goal

pub returns : goal.returns
returns c = record { sound = parsed_spelled; complete = spelled_parsed; refused = parsed_bad; every_fault = bad_parsed }
