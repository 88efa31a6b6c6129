mod Quick
