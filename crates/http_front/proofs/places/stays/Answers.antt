use Rattle.std.proofs.Common.{sym, subst}
use Rattle.http_front.specs.Places.{Stays}
use Rattle.http_front.specs.declared.places.Place.{Place}
use Rattle.http_front.specs.declared.places.Place.TheVariants as place
use Rattle.http_front.proofs.Open.{stays_lf, stays_cr, stays_crlf, stays_method, stays_target, stays_name, stays_colon, stays_value}
use Rattle.http_front.proofs.places.stays.Goals as goal

pub returns-in-Blanks : goal.returns-in-Blanks
returns-in-Blanks c = subst (λ (p : Place). Stays p c.args.byte place.Blanks) (sym c.in-Blanks.is) (stays_lf c.args.byte c.if-byte-eq10.true)

pub returns-in-Blanks-2 : goal.returns-in-Blanks-2
returns-in-Blanks-2 c = subst (λ (p : Place). Stays p c.args.byte place.BlankReturn) (sym c.in-Blanks.is) (stays_cr c.args.byte c.if-byte-eq13.true)

pub returns-in-BlankReturn : goal.returns-in-BlankReturn
returns-in-BlankReturn c = subst (λ (p : Place). Stays p c.args.byte place.Blanks) (sym c.in-BlankReturn.is) (stays_crlf c.args.byte c.if-byte-eq10-2.true)

pub returns-in-Method : goal.returns-in-Method
returns-in-Method c = subst (λ (p : Place). Stays p c.args.byte place.Method) (sym c.in-Method.is) (stays_method c.args.byte (sym c.if-is_method_token.ensures))

pub returns-in-Target : goal.returns-in-Target
returns-in-Target c = subst (λ (p : Place). Stays p c.args.byte (place.Target c.in-Target.start)) (sym c.in-Target.is) (stays_target c.in-Target.start c.args.byte (sym c.if-is_uri_token.ensures))

pub returns-in-Name : goal.returns-in-Name
returns-in-Name c = subst (λ (p : Place). Stays p c.args.byte place.Name) (sym c.in-Name.is) (stays_name c.args.byte (sym c.if-is_method_token-2.ensures))

pub returns-in-Name-2 : goal.returns-in-Name-2
returns-in-Name-2 c = subst (λ (p : Place). Stays p c.args.byte place.Value) (sym c.in-Name.is) (stays_colon c.args.byte c.if-byte-eq58.true)

pub returns-in-Value : goal.returns-in-Value
returns-in-Value c = subst (λ (p : Place). Stays p c.args.byte place.Value) (sym c.in-Value.is) (stays_value c.args.byte (sym c.if-is_header_value_token.ensures))
