use Rattle.std.proofs.Common.{sym, ap, ◌∙◌, refl, arith}
use Rattle.std.proofs.lemmas.Result.{on_err_weaker, on_ok_weaker}
use Rattle.iiif_tables.proofs.CacheLaws.{same_cache}
use Rattle.iiif_outcome.specs.Views.{kept_of}
use Rattle.iiif_byte_cache.proofs.Placing.{goes_to_hot, goes_to_main, hot_absent, main_absent, neither_there, test_is}
use Rattle.iiif_byte_cache.specs.Rows.{rows, pushed}
use Rattle.iiif_byte_cache.specs.View.{lists_of}
use Rattle.iiif_byte_cache.proofs.lists.Lists.place.Goals as goal

pub returns-then-in_main-for_hot : goal.returns-then-in_main-for_hot
returns-then-in_main-for_hot g c =
    let eq = g.K.PartialEq.eq in
    let kept = kept_of c.args.entry in
    let hot = rows kept_of c.args.self.now.hot.list.entries in
    record {
      ok = λ limit.
          let old = lists_of c.args.self.now.main c.args.self.now.hot limit in
          on_ok_weaker c.push.result
          (λ e. same_cache _ _ _ _ _ _ _ refl (e ∙ ap (λ r. pushed eq r c.args.key kept hot) c.requires.room) refl
          ∙ sym (goes_to_hot eq c.args.key kept old c.args.for_hot
          (test_is _ _ _ _ _ _ c.contains-in_main.ensures c.contains-in_hot.ensures c.if-in_main-for_hot.true)))
          c.push.ensures.ok;
      bytes = on_ok_weaker c.push.result (λ h. omega (arith, h)) c.push.ensures.bytes;
      err = λ limit. on_err_weaker c.push.result (λ e. same_cache _ _ _ _ _ _ _ refl e refl) c.push.ensures.err;
      err_bytes = on_err_weaker c.push.result (λ e. (refl, e)) c.push.ensures.same;
      kept_room = (refl, c.push.ensures.room);
      back = c.push.ensures.back;
      absent = λ limit. on_err_weaker c.push.result
          (λ e. neither_there _ _
          (main_absent _ _ c.args.for_hot c.contains-in_hot.result c.contains-in_main.ensures c.if-in_main-for_hot.true) e)
          c.push.ensures.absent;
    }

pub returns-else-in_main-for_hot : goal.returns-else-in_main-for_hot
returns-else-in_main-for_hot g c =
    let eq = g.K.PartialEq.eq in
    let kept = kept_of c.args.entry in
    let push = c.push-else-in_main-for_hot in
    record {
      ok = λ limit.
          let old = lists_of c.args.self.now.main c.args.self.now.hot limit in
          on_ok_weaker push.result
          (λ e. same_cache _ _ _ _ _ _ _ e refl push.ensures.room
          ∙ sym (goes_to_main eq c.args.key kept old c.args.for_hot
          (test_is _ _ _ _ _ _ c.contains-in_main.ensures c.contains-in_hot.ensures c.if-in_main-for_hot.false)))
          push.ensures.ok;
      bytes = on_ok_weaker push.result (λ h. omega (arith, h)) push.ensures.bytes;
      err = λ limit. on_err_weaker push.result (λ e. same_cache _ _ _ _ _ _ _ e refl push.ensures.room) push.ensures.err;
      err_bytes = on_err_weaker push.result (λ e. (e, refl)) push.ensures.same;
      kept_room = (push.ensures.room, refl);
      back = push.ensures.back;
      absent = λ limit. on_err_weaker push.result
          (λ e. neither_there _ _ e
          (hot_absent _ _ _ _ c.args.for_hot c.contains-in_main.ensures c.contains-in_hot.ensures c.if-in_main-for_hot.false e))
          push.ensures.absent;
    }
