use Rattle.std.proofs.Common.{◌≡◌, [], ◌++◌, map, reverse}
use Rattle.monitor_model.specs.Course.{heard_text, push_frame, said_count}
use Rattle.monitor_model.specs.declared.verdict.Push.{Push}
use Rattle.monitor_model.specs.declared.record.Item.TheVariants.{Heard}
use Rattle.okws_base.specs.Runs.{Each}
use Rattle.service_cell.specs.Exchange.{IsSpelled}
use Rattle.service_cell.specs.Standing.{Moves}
use Rattle.service_cell.proofs.exchange.hear_opening.Given as goal

abbrev pub invariant-loop-push : goal.invariant-loop-push
invariant-loop-push g l = record {
  heard : l.items.past ≡ reverse (map (λ (push : Push). Heard (push_frame push)) l.yielded);
  moved : Moves (g.L.Link.wire l.fn.link) (g.L.Link.wire l.link) [] (heard_text l.items.past);
  all : l.fn.pushes.items ≡ l.yielded ++ l.push-iterator.rest.items;
  said : said_count l.items.past ≡ 0;
  spelled : Each IsSpelled l.items.past;
  newest : l.items.newest ≡ l.items.past;
  whole : l.due ≡ [];
}
