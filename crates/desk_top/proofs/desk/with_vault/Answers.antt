use Rattle.std.proofs.Common.{◌≡◌, ◌∙◌, Err, ap, arith, refl, subst, sym, inl, inr}
use Rattle.disk_model.specs.Disk.{LeavesOnly}
use Rattle.keepers.specs.Keeper.{Image}
use Rattle.book.specs.Opening.{MayOpen}
use Rattle.desk_top.specs.Journals.{DeskOpened, Outside}
use Rattle.desk_top.specs.Output.{key_table}
use Rattle.desk_top.specs.Tasks.{Does}
use Rattle.desk_top.proofs.DeskLemmas.{left_so, no_read, no_write, opens_to, tells_failed, tells_kept, tells_kind, took_none, unless}
use Rattle.desk_top.proofs.OpeningLemmas.{not_opened}
use Rattle.desk_top.proofs.desk.with_vault.Goals as goal

pub returns-in-Err : goal.returns-in-Err
returns-in-Err g c =
    let P = g.P.Keeper in
    let opened = c.args.opened in
    let object = c.in-Err.field-0.object in
    let fault = c.in-Err.field-0.fault in
    let why = c.stop_of.result in
    let told = c.stop_of.ensures in
    let kind = tells_kind fault why told in
    record {
      came = inr (inl (record {
        why = why;
        end_is = refl;
        stays = record {
          reading = c.now.result;
          clock = c.now.ensures;
          written = refl;
          cause = not_opened P.fills opened.tables opened.text c.now.result (P.records c.args.keeper) (P.faults c.args.keeper) (P.faults object) fault why told c.in-Err.ensures.cause c.in-Err.ensures.fails;
          same = λ not rs is. (unless _ fault (tells_kept fault why told not) c.in-Err.ensures.left).same ∙ is;
          images = λ rs is image holds.
              let l : LeavesOnly P.moment P.held_since c.args.keeper object (MayOpen opened.tables opened.text c.now.result rs) = c.in-Err.ensures.any_moment rs is in
              l.each image (g.met.P.Keeper.now_is_since object (P.moment c.args.keeper) image l.later holds);
        };
        at_rest = λ not. unless _ fault (tells_kept fault why told not) c.in-Err.ensures.rests_left;
        input = refl;
        out = refl;
        steps = c.open.ensures.few_steps;
      }));
      read = λ is. absurd (no_read why kind cc);
      write = λ is. absurd (no_write why kind cc);
      failed = λ is. c.in-Err.ensures.cause (tells_failed fault why told cc);
      takes = took_none (g.T.Source.left c.args.input.now) c.args.limit (Err why) why refl kind;
      input_later = omega arith;
      out_later = omega arith;
      later = c.in-Err.ensures.later;
      changes = c.in-Err.ensures.changes;
    }

pub returns : goal.returns
returns g c =
    let P = g.P.Keeper in
    let left = g.T.Source.left in
    let opened = c.args.opened in
    let first = c.in-Ok.book.page in
    let page = c.serve-end.new.book.page in
    let keeper = c.into_keeper.result in
    let written = g.O.Sink.written c.args.out.now in
    let mid : Outside = record { clock = g.K.Clock.tells c.now.new.self; written = written; records = first.records } in
    let told : page.records ≡ P.records keeper = c.sound.ensures.page.told ∙ ap P.records (sym c.into_keeper.ensures.keeper) in
    let does = rw (c.in-Ok.ensures.config, c.in-Ok.ensures.keys ∙ c.requires.keys) at c.serve-end.ensures.does in
    let desk : DeskOpened P.fills opened.tables opened.text (record { clock = g.K.Clock.tells c.args.clock.now; written = written; records = P.records c.args.keeper }) = record {
      desk = first.desk;
      outside = mid;
      reading = c.now.result;
      clock = c.now.ensures;
      written = refl;
      opens = λ rs is. opens_to P.fills opened.tables opened.text c.now.result rs first (c.in-Ok.ensures.opens rs is);
    } in
    record {
      came = inr (inr (record {
        doubted = page.tried;
        serves = record {
          opened = desk;
          does = subst (λ (rs : Image). Does P.fills c.args.limit c.args.task opened.tables (key_table opened.tables) first.desk (left c.args.input.now) (left c.serve-end.new.input) mid (record { clock = g.K.Clock.tells c.serve-end.new.clock; written = g.O.Sink.written c.serve-end.new.out; records = rs }) page.tried c.serve-end.result) told does;
        };
        left = rw c.into_keeper.ensures.keeper (left_so (P.rests page.keeper) (P.doubts page.keeper) page.desk page.spare page.tried c.sound.ensures.page.whole c.sound.ensures.page.broken);
        steps = c.in-Ok.ensures.steps;
      }));
      read = c.serve-end.ensures.read;
      write = c.serve-end.ensures.write;
      failed = λ is. omega (arith, c.serve-end.ensures.disk is, c.in-Ok.ensures.later, c.serve-end.ensures.faults, c.into_keeper.ensures.faults);
      takes = c.serve-end.ensures.too_much;
      input_later = c.serve-end.ensures.input_count;
      out_later = c.serve-end.ensures.out_count;
      later = omega (arith, c.serve-end.ensures.disk_count, c.in-Ok.ensures.later, c.serve-end.ensures.faults, c.into_keeper.ensures.faults);
      changes = ap P.changes c.into_keeper.ensures.keeper ∙ c.serve-end.ensures.changes ∙ c.in-Ok.ensures.changes;
    }
