use Rattle.gb_typing.proofs.typed_laws.known_wholly.Goals as goal

pub returns : goal.returns
returns x = λ c m earlier procedures whole among own. record {
  globals = λ n x t e. e;
  operators = λ n o e. e;
  interfaces = λ n i e. e;
  own = own;
  procedures = procedures;
  whole = whole;
  among = among;
}
