-- The words of the helpers, and what they make of each triple.
use Rattle.rivest_shamir.proofs.TripleLemmas.{all_given, all_blank_given, one_declines, narrow_in_front}
use Rattle.rivest_shamir.proofs.triples.over_triples.Goals as goal

pub returns-then-two-cells-ne0-clause-declined : goal.returns-then-two-cells-ne0-clause-declined
returns-then-two-cells-ne0-clause-declined c =
    one_declines c.args.count c.args.cells c.args.messages c.spread.result c.odd.result c.others-one.result c.others-two.result c.ones-front.result
    (record { spread_is = c.spread.ensures; odd_is = c.odd.ensures; one_is = c.others-one.ensures; two_is = c.others-two.ensures }) c.requires.few c.ones-front.ensures c.if-two-cells-ne0.true

pub returns-clause-carried : goal.returns-clause-carried
returns-clause-carried c = λ t h.
    (all_given c.args.count c.args.cells c.args.messages c.spread.result c.odd.result c.others-one.result c.others-two.result c.ones-front.result
    (record { spread_is = c.spread.ensures; odd_is = c.odd.ensures; one_is = c.others-one.ensures; two_is = c.others-two.ensures })
    c.requires.few c.ones-front.ensures c.if-two-cells-ne0.false t h).carries

pub returns-clause-given : goal.returns-clause-given
returns-clause-given c = λ t h.
    (all_given c.args.count c.args.cells c.args.messages c.spread.result c.odd.result c.others-one.result c.others-two.result c.ones-front.result
    (record { spread_is = c.spread.ensures; odd_is = c.odd.ensures; one_is = c.others-one.ensures; two_is = c.others-two.ensures })
    c.requires.few c.ones-front.ensures c.if-two-cells-ne0.false t h).least

pub returns-clause-narrow : goal.returns-clause-narrow
returns-clause-narrow c = narrow_in_front _ _ c.ones-front.result c.ones-front.ensures

pub returns-then-cells-eq0-clause-carried : goal.returns-then-cells-eq0-clause-carried
returns-then-cells-eq0-clause-carried c = λ t h.
    (all_blank_given c.args.count c.args.cells c.args.messages c.least.result c.ones-front.result c.if-cells-eq0.true c.least.ensures c.requires.few c.ones-front.ensures t h).carries

pub returns-then-cells-eq0-clause-given : goal.returns-then-cells-eq0-clause-given
returns-then-cells-eq0-clause-given c = λ t h.
    (all_blank_given c.args.count c.args.cells c.args.messages c.least.result c.ones-front.result c.if-cells-eq0.true c.least.ensures c.requires.few c.ones-front.ensures t h).least

pub returns-then-cells-eq0-clause-narrow : goal.returns-then-cells-eq0-clause-narrow
returns-then-cells-eq0-clause-narrow c = narrow_in_front _ _ c.ones-front.result c.ones-front.ensures
