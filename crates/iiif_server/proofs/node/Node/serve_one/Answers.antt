use Rattle.std.proofs.Common.{◌∙◌, List, ℕ, ap, sym, subst, refl}
use Rattle.iiif_http_front.specs.Methods.{method_text}
use Rattle.iiif_request.specs.declared.request.Refusal.TheVariants.{Method}
use Rattle.iiif_answers.specs.Allowed.{own}
use Rattle.iiif_answers.specs.Answers.{Replies, refused, given}
use Rattle.iiif_answers.specs.Calls.{RepliesToCall, no_method, of_target, part_of}
use Rattle.iiif_answers.specs.Responses.{is_loaded}
use Rattle.iiif_answers.proofs.AllowedLemmas.{answer_to_call_framed, call_allowed, other_part, told_allowed}
use Rattle.iiif_server.proofs.node.Node.serve_one.Goals as goal

pub returns-then-is_answered : goal.returns-then-is_answered
returns-then-is_answered g c =
    let asked = part_of (method_text c.args.call.now.method) c.args.call.now.close in
    let answered = sym c.is_answered.ensures ∙ c.if-is_answered.true in
    let allowed = call_allowed g.S.Source.bytes g.S.Source.keeps g.J.System.honest c.args.self.now.settings c.args.self.now.items
    c.part_of-part.result asked g.S.Source.gave
    (method_text c.args.call.now.method) c.deref.result.now c.args.call.now.target.items
    ((b : g.row.W.Denot) × g.W.Outlet.fails b c.answer.new.out) (g.W.Write.contents c.args.out.now)
    (g.W.Write.contents c.answer.new.out) c.answer.result c.part_of-part.ensures c.deref.ensures.value answered c.answer.ensures.allowed in
    record {
      allowed = allowed;
      framed = answer_to_call_framed g.S.Source.bytes g.S.Source.keeps g.J.System.honest c.args.self.now.settings c.args.self.now.items
          asked g.S.Source.gave (method_text c.args.call.now.method)
          c.args.call.now.target.items ((b : g.row.W.Denot) × g.W.Outlet.fails b c.answer.new.out) (g.W.Write.contents c.args.out.now)
          (g.W.Write.contents c.answer.new.out)
          c.answer.result allowed;
      unasked = λ none.
          c.answer.ensures.unasked
          (λ q reached. ap is_loaded c.part_of-part.ensures
          ∙ none q (of_target (given q) answered
          (subst (λ (t : List ℕ). Replies g.S.Source.bytes g.S.Source.keeps g.J.System.honest c.args.self.now.settings c.args.self.now.items
          t (given q)) c.deref.ensures.value reached)));
      whole = λ never no_writer q reached. (
        allowed.0,
        allowed.1,
        (c.whole_over_honest_devices.ensures c.answer.new.out c.args.self.now.settings c.args.self.now.items
            c.args.call.now.target.items).1 (method_text c.args.call.now.method) asked q allowed.0 c.answer.result never no_writer reached
            allowed.2,
      );
    }

pub returns-else-is_answered-clause-allowed : goal.returns-else-is_answered-clause-allowed
returns-else-is_answered-clause-allowed g c =
    let asked = part_of (method_text c.args.call.now.method) c.args.call.now.close in
    let reaches = RepliesToCall g.S.Source.bytes g.S.Source.keeps g.J.System.honest c.args.self.now.settings c.args.self.now.items
    (method_text c.args.call.now.method) c.args.call.now.target.items in
    let told = told_allowed c.args.self.now.settings c.part_of-part.result g.S.Source.gave reaches g.W.Write.contents g.W.Outlet.fails
    c.args.out.now c.send_message.new.out
    c.refusal_message-message.result c.send_message.result _
    (own (refused Method) (no_method (sym c.is_answered.ensures ∙ c.if-is_answered.false)), refl) c.refusal_message-message.ensures
    c.send_message.ensures.made c.send_message.ensures.memory in
    other_part c.args.self.now.settings c.part_of-part.result asked g.S.Source.gave reaches
    ((b : g.row.W.Denot) × g.W.Outlet.fails b c.send_message.new.out)
    (g.W.Write.contents c.args.out.now) (g.W.Write.contents c.send_message.new.out) c.send_message.result c.part_of-part.ensures told

pub returns-else-is_answered-clause-framed : goal.returns-else-is_answered-clause-framed
returns-else-is_answered-clause-framed g c =
    answer_to_call_framed g.S.Source.bytes g.S.Source.keeps g.J.System.honest c.args.self.now.settings c.args.self.now.items
    (part_of (method_text c.args.call.now.method) c.args.call.now.close) g.S.Source.gave (method_text c.args.call.now.method)
    c.args.call.now.target.items ((b : g.row.W.Denot) × g.W.Outlet.fails b c.send_message.new.out) (g.W.Write.contents c.args.out.now)
    (g.W.Write.contents c.send_message.new.out)
    c.send_message.result (returns-else-is_answered-clause-allowed g c)

pub returns-else-is_answered-clause-whole : goal.returns-else-is_answered-clause-whole
returns-else-is_answered-clause-whole g c never no_writer q reached =
    let asked = part_of (method_text c.args.call.now.method) c.args.call.now.close in
    let allowed = returns-else-is_answered-clause-allowed g c in (
      allowed.0,
      allowed.1,
      (c.whole_over_honest_devices.ensures c.send_message.new.out c.args.self.now.settings c.args.self.now.items
          c.args.call.now.target.items).1 (method_text c.args.call.now.method) asked q allowed.0 c.send_message.result never
          no_writer reached allowed.2,
    )
