use Rattle.std.proofs.Common.{◌∙◌, rules}
use Rattle.std.proofs.lemmas.Iterator.{YieldsList-from_slice}
use Rattle.std.proofs.lemmas.Iterator.Search.{all_from_yields_List}
use borrow.Author.Tests.{tests}
use Rattle.transducer.specs.Codes.{all_codes}
use Rattle.transducer.specs.Valid.{is_code}
use Rattle.transducer.proofs.Bools.{all_listed}
use Rattle.transducer.proofs.codes.all.Goals as goal

pub returns : goal.returns
unfolding all_codes
returns c =
    all_from_yields_List is_code _ _ _ c.all.ensures.ran (YieldsList-from_slice c.args.bytes.now (cc)) (λ x b q k. search (rules, tests))
    ∙ all_listed is_code 0 c.args.bytes.now
