mod Unary
