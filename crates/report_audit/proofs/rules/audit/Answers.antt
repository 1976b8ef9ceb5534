use Rattle.std.proofs.Common.{◌↔◌, IsTrue}
use Rattle.proto_safety.specs.LegalLines.{ListsAreFed, KeyedAreListed, ListsAreInOrder, lists_fail, keyed_fail, order_fails, cells_fail, keyless_fail}
use Rattle.proto_safety.proofs.Legality.RulesOneByOne.{rules_together}
use Rattle.report_audit.proofs.Verdicts.{fails, keyed_rule, marks_rise, order_rule}
use Rattle.report_audit.proofs.rules.audit.Goals as goal

pub lists_are_fed-requires : goal.lists_are_fed-requires
lists_are_fed-requires g c = marks_rise c.args.feeds.now c.requires.rise c.requires.marks

pub returns-then-not-branch : goal.returns-then-not-branch
returns-then-not-branch g c =
    lists_fail (fails c.in_ok-lists_are_fed.ensures c.if-not-branch.true)

pub note_lists-requires : goal.note_lists-requires
note_lists-requires g c = marks_rise c.args.feeds.now c.requires.rise c.requires.marks

pub keyed_are_noted-requires : goal.keyed_are_noted-requires
keyed_are_noted-requires g c = marks_rise c.args.feeds.now c.requires.rise c.requires.marks

pub returns-then-not-branch-2 : goal.returns-then-not-branch-2
returns-then-not-branch-2 g c =
    let lists : ListsAreFed (g.A.App.meaning c.args.app.now) c.args.feeds.now c.args.flows.now = c.in_ok-lists_are_fed.ensures.0 c.if-not-branch.false in
    let keyed : IsTrue c.in_ok-keyed_are_noted.field-0 ↔ KeyedAreListed (g.A.App.meaning c.args.app.now) c.args.feeds.now c.args.releases.now c.args.flows.now =
    keyed_rule lists c.new-notes.ensures.empty c.in_ok-folded.ensures.notes c.requires.keys c.in_ok-keyed_are_noted.ensures in
    keyed_fail lists (fails keyed c.if-not-branch-2.true)

pub returns-then-not-released_in_time : goal.returns-then-not-released_in_time
returns-then-not-released_in_time g c =
    let lists : ListsAreFed (g.A.App.meaning c.args.app.now) c.args.feeds.now c.args.flows.now = c.in_ok-lists_are_fed.ensures.0 c.if-not-branch.false in
    let keyed : IsTrue c.in_ok-keyed_are_noted.field-0 ↔ KeyedAreListed (g.A.App.meaning c.args.app.now) c.args.feeds.now c.args.releases.now c.args.flows.now =
    keyed_rule lists c.new-notes.ensures.empty c.in_ok-folded.ensures.notes c.requires.keys c.in_ok-keyed_are_noted.ensures in
    let order : IsTrue c.released_in_time.result ↔ ListsAreInOrder c.args.feeds.now c.args.releases.now c.args.flows.now =
    order_rule lists c.new-notes.ensures.empty c.in_ok-folded.ensures.notes c.requires.marks c.released_in_time.ensures in
    order_fails lists (keyed.0 c.if-not-branch-2.false) (fails order c.if-not-released_in_time.true)

pub returns-then-not-folded : goal.returns-then-not-folded
returns-then-not-folded g c =
    let lists : ListsAreFed (g.A.App.meaning c.args.app.now) c.args.feeds.now c.args.flows.now = c.in_ok-lists_are_fed.ensures.0 c.if-not-branch.false in
    let keyed : IsTrue c.in_ok-keyed_are_noted.field-0 ↔ KeyedAreListed (g.A.App.meaning c.args.app.now) c.args.feeds.now c.args.releases.now c.args.flows.now =
    keyed_rule lists c.new-notes.ensures.empty c.in_ok-folded.ensures.notes c.requires.keys c.in_ok-keyed_are_noted.ensures in
    let order : IsTrue c.released_in_time.result ↔ ListsAreInOrder c.args.feeds.now c.args.releases.now c.args.flows.now =
    order_rule lists c.new-notes.ensures.empty c.in_ok-folded.ensures.notes c.requires.marks c.released_in_time.ensures in
    cells_fail lists (keyed.0 c.if-not-branch-2.false) (order.0 c.if-not-released_in_time.false) (fails c.in_ok-folded.ensures.folded c.if-not-folded.true)

pub keyless_are_fed-requires : goal.keyless_are_fed-requires
keyless_are_fed-requires g c = marks_rise c.args.feeds.now c.requires.rise c.requires.marks

pub returns-then-not-branch-3 : goal.returns-then-not-branch-3
returns-then-not-branch-3 g c =
    let lists : ListsAreFed (g.A.App.meaning c.args.app.now) c.args.feeds.now c.args.flows.now = c.in_ok-lists_are_fed.ensures.0 c.if-not-branch.false in
    let keyed : IsTrue c.in_ok-keyed_are_noted.field-0 ↔ KeyedAreListed (g.A.App.meaning c.args.app.now) c.args.feeds.now c.args.releases.now c.args.flows.now =
    keyed_rule lists c.new-notes.ensures.empty c.in_ok-folded.ensures.notes c.requires.keys c.in_ok-keyed_are_noted.ensures in
    let order : IsTrue c.released_in_time.result ↔ ListsAreInOrder c.args.feeds.now c.args.releases.now c.args.flows.now =
    order_rule lists c.new-notes.ensures.empty c.in_ok-folded.ensures.notes c.requires.marks c.released_in_time.ensures in
    keyless_fail lists (keyed.0 c.if-not-branch-2.false) (order.0 c.if-not-released_in_time.false) (c.in_ok-folded.ensures.folded.0 c.if-not-folded.false)
    (fails c.in_ok-keyless_are_fed.ensures c.if-not-branch-3.true)

pub returns : goal.returns
returns g c =
    let lists : ListsAreFed (g.A.App.meaning c.args.app.now) c.args.feeds.now c.args.flows.now = c.in_ok-lists_are_fed.ensures.0 c.if-not-branch.false in
    let keyed : IsTrue c.in_ok-keyed_are_noted.field-0 ↔ KeyedAreListed (g.A.App.meaning c.args.app.now) c.args.feeds.now c.args.releases.now c.args.flows.now =
    keyed_rule lists c.new-notes.ensures.empty c.in_ok-folded.ensures.notes c.requires.keys c.in_ok-keyed_are_noted.ensures in
    let order : IsTrue c.released_in_time.result ↔ ListsAreInOrder c.args.feeds.now c.args.releases.now c.args.flows.now =
    order_rule lists c.new-notes.ensures.empty c.in_ok-folded.ensures.notes c.requires.marks c.released_in_time.ensures in
    rules_together (g.A.App.meaning c.args.app.now) c.args.feeds.now c.args.releases.now c.args.flows.now
    (record {
      lists = lists;
      keyed = keyed.0 c.if-not-branch-2.false;
      order = order.0 c.if-not-released_in_time.false;
      cells = c.in_ok-folded.ensures.folded.0 c.if-not-folded.false;
      keyless = c.in_ok-keyless_are_fed.ensures.0 c.if-not-branch-3.false;
    })
